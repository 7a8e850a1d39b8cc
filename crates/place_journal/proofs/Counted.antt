-- What one entry more adds to the counts.
use Rattle.std.proofs.Common.{◌≡◌, ℕ, suc, ◌+◌, ◌<◌, ◌≤◌, Bool, true, false, ◌||◌, cond, Option, Some, None, is_some, IsSome, List, [], ◌∷◌, ◌++◌, length, refl, sym, ◌∙◌, ap, subst, arith, length-append, true≢false}
use Rattle.std.specs.Option.{option_map, option_or}
use Rattle.chorus_ui.specs.declared.ui.Ui.{Ui}
use Rattle.chorus_ui.specs.declared.layout.Layout.{Layout}
use Rattle.chorus_ui.specs.Name.{same_ui}
use Rattle.chorus_ui.proofs.Names.{from_same_ui}
use Rattle.chorus_entry.specs.declared.entry.Entry.{Entry}
use Rattle.chorus_entry.specs.declared.act.Act.{Act}
use Rattle.chorus_entry.specs.declared.act.Act.TheVariants.{Make, GroupMake, Join, Leave, Choose}
use Rattle.chorus_entry.specs.Members.{turned, turned_back, without}
use Rattle.chorus_world.specs.Places.{ports_after, ports_made, makes, is_made_here, deletes, is_deleted}
use Rattle.chorus_world.specs.Views.{makes_group, is_group}
use Rattle.chorus_world.specs.Groups as world
use Rattle.chorus_groups.specs.Groups.{Group, Table, group_of, new_group, after_make, changed, joined, left, members_in, members, rotation_in, rotation}
use Rattle.chorus_groups.specs.Faults.{join_refused, leave_refused}
use Rattle.chorus_groups.specs.Choosing.{turned_by}
use Rattle.chorus_groups.proofs.Turns.{group_of-changed}
use Rattle.chorus_groups.proofs.Ties.{group_of-made}
use Rattle.place_journal.specs.Marks.{Marks, is_marked}
use Rattle.place_journal.specs.Counting.{groups_with, MayFollow, IsCounted}

ports-after : (a : Act) (n : ℕ) → ports_after a n ≡ n + ports_after a 0
ports-after (Make q a c) n = refl
ports-after _ n = omega arith

-- who joins or leaves a group finds it
joins_made : (q : Ui) (o : Option Group) → join_refused q o ≡ None → IsSome o
joins_made q None h = cc
joins_made q (Some x) h = refl

leaves_made : (q : Ui) (o : Option Group) → leave_refused q o ≡ None → IsSome o
leaves_made q None h = cc
leaves_made q (Some x) h = refl

made_too : (g h : Ui) (t : Table) → IsSome (group_of h t.groups) → same_ui h g ≡ true → IsSome (group_of g t.groups)
made_too g h t made s = subst (λ u. IsSome (group_of u t.groups)) (from_same_ui h g s) made

members_case : (b : Bool) (f : Group → Group) (k : List Ui → List Ui) (o : Option Group) → ((x : Group) → (f x).members ≡ k x.members)
    → (b ≡ true → IsSome o) → members_in (cond b (option_map f o) o) ≡ cond b (k (members_in o)) (members_in o)
members_case true f k None e made = absurd (true≢false (sym (made refl)))
members_case true f k (Some x) e made = e x
members_case false f k o e made = refl

pub members-after : (a : Act) (l : Layout) (t : Table) → MayFollow l t a → (g : Ui) → members g (groups_with a t) ≡ world.members_after g a (members g t)
members-after (Join h q) l t may g =
    ap members_in (group_of-changed g h (joined q) (λ x. refl) t.groups)
    ∙ members_case (same_ui h g) (joined q) (λ qs. qs ++ q ∷ []) (group_of g t.groups) (λ x. refl)
    (made_too g h t (joins_made q (group_of h t.groups) may))
members-after (Leave h q) l t may g =
    ap members_in (group_of-changed g h (left q) (λ x. refl) t.groups)
    ∙ members_case (same_ui h g) (left q) (without q) (group_of g t.groups) (λ x. refl)
    (made_too g h t (leaves_made q (group_of h t.groups) may))
members-after (Choose x h ms) l t may g =
    ap members_in (group_of-changed g h (turned_by ms) (λ x. refl) t.groups) ∙ by (same_ui h g) (group_of g t.groups)
  where
    by : (b : Bool) (o : Option Group) → members_in (cond b (option_map (turned_by ms) o) o) ≡ members_in o
    by true None = refl
    by true (Some y) = refl
    by false o = refl
members-after (GroupMake h) l t may g = absurd may
members-after _ l t may g = refl

pub rotation-after : (a : Act) (l : Layout) (t : Table) → MayFollow l t a → (g : Ui)
    → rotation g (groups_with a t) ≡ world.rotation_after g (members g t) a (rotation g t)
rotation-after (Join h q) l t may g =
    ap rotation_in (group_of-changed g h (joined q) (λ x. refl) t.groups) ∙ by (same_ui h g) (group_of g t.groups)
  where
    by : (b : Bool) (o : Option Group) → rotation_in (cond b (option_map (joined q) o) o) ≡ rotation_in o
    by true None = refl
    by true (Some y) = refl
    by false o = refl
rotation-after (Leave h q) l t may g =
    ap rotation_in (group_of-changed g h (left q) (λ x. refl) t.groups)
    ∙ by (same_ui h g) (group_of g t.groups) (made_too g h t (leaves_made q (group_of h t.groups) may))
  where
    by : (b : Bool) (o : Option Group) → (b ≡ true → IsSome o)
        → rotation_in (cond b (option_map (left q) o) o) ≡ cond b (turned_back (members_in o) q (rotation_in o)) (rotation_in o)
    by true None made = absurd (true≢false (sym (made refl)))
    by true (Some y) made = refl
    by false o made = refl
rotation-after (Choose x h ms) l t may g =
    ap rotation_in (group_of-changed g h (turned_by ms) (λ x. refl) t.groups) ∙ by (same_ui h g) (group_of g t.groups)
  where
    nowhere : (qs : List Ui) → 0 ≡ turned [] qs 0
    nowhere [] = refl
    nowhere (p ∷ []) = refl
    nowhere (p ∷ r ∷ rs) = refl

    by : (b : Bool) (o : Option Group)
        → rotation_in (cond b (option_map (turned_by ms) o) o) ≡ cond b (turned (members_in o) ms (rotation_in o)) (rotation_in o)
    by true None = nowhere ms
    by true (Some y) = refl
    by false o = refl
rotation-after (GroupMake h) l t may g = absurd may
rotation-after _ l t may g = refl

length-changed : (h : Ui) (f : Group → Group) (xs : List Group) → length (changed h f xs) ≡ length xs
length-changed h f [] = refl
length-changed h f (x ∷ xs) = by (same_ui x.ui h) (length-changed h f xs)
  where
    by : (b : Bool) → length (changed h f xs) ≡ length xs → length (cond b (f x ∷ xs) (x ∷ changed h f xs)) ≡ length (x ∷ xs)
    by true e = refl
    by false e = ap suc e

groups-after : (a : Act) (l : Layout) (t : Table) → MayFollow l t a → length (groups_with a t).groups ≡ world.groups_after a (length t.groups)
groups-after (Join h q) l t may = length-changed h (joined q) t.groups
groups-after (Leave h q) l t may = length-changed h (left q) t.groups
groups-after (Choose x h ms) l t may = length-changed h (turned_by ms) t.groups
groups-after (GroupMake h) l t may = absurd may
groups-after _ l t may = refl

-- which groups are made
some-changed : (b : Bool) (f : Group → Group) (o : Option Group) → is_some (cond b (option_map f o) o) ≡ is_some o
some-changed true f None = refl
some-changed true f (Some x) = refl
some-changed false f o = refl

named-after : (a : Act) (l : Layout) (t : Table) → MayFollow l t a → (g : Ui) → is_some (group_of g (groups_with a t).groups) ≡ is_some (group_of g t.groups)
named-after (Join h q) l t may g =
    ap (λ o. is_some o) (group_of-changed g h (joined q) (λ x. refl) t.groups) ∙ some-changed (same_ui h g) (joined q) (group_of g t.groups)
named-after (Leave h q) l t may g =
    ap (λ o. is_some o) (group_of-changed g h (left q) (λ x. refl) t.groups) ∙ some-changed (same_ui h g) (left q) (group_of g t.groups)
named-after (Choose x h ms) l t may g =
    ap (λ o. is_some o) (group_of-changed g h (turned_by ms) (λ x. refl) t.groups) ∙ some-changed (same_ui h g) (turned_by ms) (group_of g t.groups)
named-after (GroupMake h) l t may g = absurd may
named-after _ l t may g = refl

makes-none : (a : Act) (l : Layout) (t : Table) → MayFollow l t a → (g : Ui) → makes_group g a ≡ false
makes-none (GroupMake h) l t may g = absurd may
makes-none _ l t may g = refl

counts-none : (a : Act) (l : Layout) (t : Table) (n : ℕ) → MayFollow l t a → world.groups_after a n ≡ n
counts-none (GroupMake h) l t n may = absurd may
counts-none _ l t n may = refl

spare-after : (a : Act) (t : Table) → (groups_with a t).spare ≡ t.spare
spare-after (Join h q) t = refl
spare-after (Leave h q) t = refl
spare-after (Choose x h ms) t = refl
spare-after _ t = refl

-- a group of the next number is not made
pub unmade : (past : List Entry) (clock count : ℕ) (made deleted : Marks) (t : Table) (h : Ui) → IsCounted past clock count made deleted t
    → h.number ≡ world.groups_made past + 1 → group_of h t.groups ≡ None
unmade past clock count made deleted t h c n = by (group_of h t.groups) (c.named_are h)
  where
    by : (o : Option Group) → is_some o ≡ is_group h past → o ≡ None
    by None e = refl
    by (Some x) e = let within = c.numbers_within h (sym e) in absurd (omega (arith, within, n))

-- after an entry that makes no group
pub counted : (l : Layout) (past : List Entry) (e : Entry) (clock count n : ℕ) (made made' deleted deleted' : Marks) (t t' : Table)
    → IsCounted past clock count made deleted t → MayFollow l t e.act → n ≡ ports_after e.act 0 → n ≤ 1
    → ((q : Ui) → is_marked made' q ≡ makes q e.act || is_marked made q) → ((q : Ui) → is_marked deleted' q ≡ deletes q e.act || is_marked deleted q)
    → t' ≡ groups_with e.act t → IsCounted (e ∷ past) e.clock (count + n) made' deleted' t'
counted l past e clock count n made made' deleted deleted' t t' h may n-is n-le m d g-is = record {
  clock_is = refl;
  count_is = ap (λ x. x + n) h.count_is ∙ ap (λ x. ports_made past + x) n-is ∙ sym (ports-after e.act (ports_made past));
  count_within = let w = h.count_within in omega arith;
  made_are = λ q. m q ∙ ap (λ b. makes q e.act || b) (h.made_are q);
  deleted_are = λ q. d q ∙ ap (λ b. deletes q e.act || b) (h.deleted_are q);
  members_are = λ g. ap (members g) g-is ∙ members-after e.act l t may g ∙ ap (world.members_after g e.act) (h.members_are g);
  rotation_is = λ g.
      ap (rotation g) g-is ∙ rotation-after e.act l t may g
      ∙ ap (λ qs. world.rotation_after g qs e.act (rotation g t)) (h.members_are g)
      ∙ ap (λ i. world.rotation_after g (world.members g past) e.act i) (h.rotation_is g);
  groups_are = ap (λ x. length x.groups) g-is ∙ groups-after e.act l t may ∙ ap (world.groups_after e.act) h.groups_are;
  named_are = λ g.
      ap (λ x. is_some (group_of g x.groups)) g-is ∙ named-after e.act l t may g ∙ h.named_are g
      ∙ ap (λ b. b || is_group g past) (sym (makes-none e.act l t may g));
  numbers_within = λ g m.
      subst (λ k. g.number ≤ k) (sym (counts-none e.act l t (world.groups_made past) may))
      (h.numbers_within g (ap (λ b. b || is_group g past) (sym (makes-none e.act l t may g)) ∙ m));
  room_is =
      ap (λ x. world.groups_after e.act (world.groups_made past) + x.spare) g-is ∙ ap (λ k. k + (groups_with e.act t).spare) (counts-none e.act l t (world.groups_made past) may)
      ∙ ap (λ k. world.groups_made past + k) (spare-after e.act t) ∙ h.room_is;
}

-- after the entry that makes a group
pub counted_group : (past : List Entry) (e : Entry) (clock count : ℕ) (made deleted : Marks) (t : Table) (h : Ui)
    → IsCounted past clock count made deleted t → e.act ≡ GroupMake h → h.number ≡ world.groups_made past + 1 → world.groups_made past < 4
    → IsCounted (e ∷ past) e.clock count made deleted (after_make t h)
counted_group past e clock count made deleted t h c a number few = record {
  clock_is = refl;
  count_is = c.count_is ∙ ap (λ x. ports_after x (ports_made past)) (sym a);
  count_within = let w = c.count_within in omega arith;
  made_are = λ q. c.made_are q ∙ ap (λ x. makes q x || is_made_here q past) (sym a);
  deleted_are = λ q. c.deleted_are q ∙ ap (λ x. deletes q x || is_deleted q past) (sym a);
  members_are = λ g.
      ap members_in (group_of-made g h t.groups) ∙ by g (same_ui h g) (group_of g t.groups) ∙ c.members_are g
      ∙ ap (λ x. world.members_after g x (world.members g past)) (sym a);
  rotation_is = λ g.
      ap rotation_in (group_of-made g h t.groups) ∙ turn g (same_ui h g) (group_of g t.groups) ∙ c.rotation_is g
      ∙ ap (λ x. world.rotation_after g (world.members g past) x (world.rotation g past)) (sym a);
  groups_are =
      length-append t.groups (new_group h ∷ []) ∙ ap (λ n. n + 1) c.groups_are
      ∙ ap (λ x. world.groups_after x (world.groups_made past)) (sym a);
  named_are = λ g.
      ap (λ o. is_some o) (group_of-made g h t.groups) ∙ named g (same_ui h g) (group_of g t.groups) ∙ ap (λ b. same_ui h g || b) (c.named_are g)
      ∙ ap (λ x. makes_group g x || is_group g past) (sym a);
  numbers_within = λ g m.
      subst (λ x. g.number ≤ world.groups_after x (world.groups_made past)) (sym a)
      (within g (same_ui h g) refl (ap (λ x. makes_group g x || is_group g past) (sym a) ∙ m));
  room_is =
      ap (λ x. world.groups_after x (world.groups_made past) + (after_make t h).spare) a ∙ (let r = c.room_is in omega (arith, r, few));
}
  where
    by : (g : Ui) (b : Bool) (o : Option Group) → members_in (option_or o (cond b (Some (new_group h)) None)) ≡ members_in o
    by g true None = refl
    by g false None = refl
    by g b (Some y) = refl

    turn : (g : Ui) (b : Bool) (o : Option Group) → rotation_in (option_or o (cond b (Some (new_group h)) None)) ≡ rotation_in o
    turn g true None = refl
    turn g false None = refl
    turn g b (Some y) = refl

    named : (g : Ui) (b : Bool) (o : Option Group) → is_some (option_or o (cond b (Some (new_group h)) None)) ≡ b || is_some o
    named g true None = refl
    named g false None = refl
    named g true (Some y) = refl
    named g false (Some y) = refl

    within : (g : Ui) (b : Bool) → same_ui h g ≡ b → b || is_group g past ≡ true → g.number ≤ world.groups_made past + 1
    within g true e m = let same = ap (λ u. u.number) (from_same_ui h g e) in omega (arith, same, number)
    within g false e m = let below = c.numbers_within g m in omega (arith, below)
