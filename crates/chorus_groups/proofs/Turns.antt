-- Functional choices, one after another, choose the members in turn.
use Rattle.std.proofs.Common.{ℕ, zero, suc, ◌≡◌, ◌+◌, ◌-◌, ◌≤◌, Bool, true, false, cond, List, [], ◌∷◌, ◌++◌, length, take, drop, Option, Some, None, slice_get, slice_index_or, refl, sym, ◌∙◌, ap, subst, arith, zero-add, add-one}
use Rattle.std.proofs.Math.ListN.{drop_of_length-le}
use Rattle.std.specs.Option.{option_map}
use Rattle.std.proofs.lemmas.Bool.Decides.{nat_tests}
use Rattle.std.proofs.lemmas.Grind.{common_steps}
use Rattle.std.proofs.lemmas.Option.{slice_get-get_or}
use Rattle.chorus_ui.specs.declared.ui.Ui.{Ui}
use Rattle.chorus_ui.specs.Name.{same_ui}
use Rattle.chorus_ui.proofs.Names.{from_same_ui, same_ui-self}
use Rattle.chorus_entry.specs.declared.dest.Dest.TheVariants.{One}
use Rattle.chorus_entry.specs.Members.{index_of, is_member, are_distinct, wrapped, IsPosition, first_of, round_from, listed, turned}
use Rattle.chorus_groups.specs.Groups.{Group, Table, group_of, changed, members, members_in, rotation, rotation_in}
use Rattle.chorus_groups.specs.Choosing.{choice, turned_by, after_choose}
use Rattle.chorus_groups.specs.Law.{chosen_of, times, around}
use Rattle.chorus_groups.proofs.PortLemmas.{first_of_in_turn, wrapped-position}

looked : (g : Ui) (f : Group → Group) (x : Group) (xs ys : List Group) (a b c : Bool) → same_ui (f x).ui g ≡ b → same_ui x.ui g ≡ b →
    (a ≡ true → b ≡ c) → (a ≡ false → b ≡ true → c ≡ false) →
    group_of g ys ≡ cond c (option_map f (group_of g xs)) (group_of g xs) →
    group_of g (cond a (f x ∷ xs) (x ∷ ys)) ≡ cond c (option_map f (cond b (Some x) (group_of g xs))) (cond b (Some x) (group_of g xs))
looked g f x xs ys true true true k e p q h = grind arith
looked g f x xs ys true true false k e p q h = absurd (let wrong : true ≡ false = p refl in cc)
looked g f x xs ys true false true k e p q h = absurd (let wrong : false ≡ true = p refl in cc)
looked g f x xs ys true false false k e p q h = grind arith
looked g f x xs ys false true true k e p q h = absurd (let wrong : true ≡ false = q refl refl in cc)
looked g f x xs ys false true false k e p q h = grind arith
looked g f x xs ys false false c k e p q h = grind arith

-- a group, after one of that name or of another one is changed
pub group_of-changed : (g h : Ui) (f : Group → Group) → ((x : Group) → (f x).ui ≡ x.ui) → (xs : List Group) →
    group_of g (changed h f xs) ≡ cond (same_ui h g) (option_map f (group_of g xs)) (group_of g xs)
group_of-changed g h f keeps [] = grind arith
group_of-changed g h f keeps (x ∷ xs) =
    looked g f x xs (changed h f xs) (same_ui x.ui h) (same_ui x.ui g) (same_ui h g) (ap (λ u. same_ui u g) (keeps x)) refl
    (λ e. ap (λ u. same_ui u g) (from_same_ui x.ui h e))
    (λ e k. sym (ap (λ u. same_ui h u) (from_same_ui x.ui g k)) ∙ other h x.ui e)
    (group_of-changed g h f keeps xs)
  where
    other : (u v : Ui) → same_ui v u ≡ false → same_ui u v ≡ false
    other u v e = by (same_ui u v) refl
      where
        by : (b : Bool) → same_ui u v ≡ b → b ≡ false
        by true k = absurd (let self : same_ui v v ≡ false = ap (λ w. same_ui v w) (sym (from_same_ui u v k)) ∙ e in let wrong : true ≡ false = sym (same_ui-self v) ∙ self in cc)
        by false k = refl

-- a port that stands in a list is in it
member_at : (qs : List Ui) (i : ℕ) (q : Ui) → slice_get qs i ≡ Some q → is_member q qs ≡ true
member_at [] i q h = grind (arith, common_steps)
member_at (r ∷ rs) zero q h = grind (arith, same_ui-self q)
member_at (r ∷ rs) (suc i) q h = grind (arith, member_at rs i q)

-- the place of a port that stands once in a list
pub index_of-at : (qs : List Ui) (i : ℕ) (q : Ui) → are_distinct qs ≡ true → slice_get qs i ≡ Some q → index_of q qs ≡ i
index_of-at [] i q d h = grind (arith, common_steps)
index_of-at (r ∷ rs) zero q d h = grind (arith, same_ui-self q)
index_of-at (r ∷ rs) (suc i) q d h = by (same_ui r q) refl (index_of-at rs i q)
  where
    by : (b : Bool) → same_ui r q ≡ b → (are_distinct rs ≡ true → slice_get rs i ≡ Some q → index_of q rs ≡ i) → cond b 0 (index_of q rs + 1) ≡ suc i
    by true e k = absurd (let same : r ≡ q = from_same_ui r q e in let here : is_member r rs ≡ true = ap (λ u. is_member u rs) same ∙ member_at rs i q h in grind arith)
    by false e k = grind (arith, k)

-- the rotation place behind the member at it
pub turned_at : (qs : List Ui) (i : ℕ) (o : Option Ui) → are_distinct qs ≡ true → IsPosition i (length qs) → slice_get qs i ≡ o →
    turned qs (listed o) i ≡ wrapped (length qs) (i + 1)
turned_at qs i (Some q) d p e = ap (λ n. wrapped (length qs) (n + 1)) (index_of-at qs i q d e)
turned_at [] i None d p e = grind (arith, nat_tests)
turned_at (q ∷ qs) i None d p e =
    absurd (let wrong : None ≡ Some (slice_index_or (q ∷ qs) i q) = sym e ∙ slice_get-get_or (q ∷ qs) i q (omega arith) in cc)

-- one of these groups more
times_more : (b : Bool) (n : ℕ) → cond b 1 0 + n ≡ cond b (suc n) n
times_more true n = omega arith
times_more false n = omega arith

members_turned : (chosen : List Ui) (o : Option Group) → members_in (option_map (turned_by chosen) o) ≡ members_in o
members_turned chosen None = refl
members_turned chosen (Some x) = refl

rotation_turned : (o : Option Group) → let chosen = listed (first_of (round_from (rotation_in o) (members_in o))) in
    rotation_in (option_map (turned_by chosen) o) ≡ turned (members_in o) chosen (rotation_in o)
rotation_turned None = grind (arith, common_steps)
rotation_turned (Some x) = refl

-- the members are as they were, and the rotation place is behind the one that was chosen
record Moved (g : Ui) (t after : Table) : Type 0 where
  members_stay : members g after ≡ members g t
  rotation_moves : rotation g after ≡ wrapped (length (members g t)) (rotation g t + 1)

moved : (g : Ui) (t : Table) → are_distinct (members g t) ≡ true → IsPosition (rotation g t) (length (members g t)) →
    Moved g t (after_choose t (One g) [])
moved g t d p =
    let chosen = choice t (One g) [] in
    let look : group_of g (changed g (turned_by chosen) t.groups) ≡ option_map (turned_by chosen) (group_of g t.groups) =
    group_of-changed g g (turned_by chosen) (λ x. refl) t.groups ∙ ap (λ b. cond b (option_map (turned_by chosen) (group_of g t.groups)) (group_of g t.groups)) (same_ui-self g) in
    record {
      members_stay = ap members_in look ∙ members_turned chosen (group_of g t.groups);
      rotation_moves =
          ap rotation_in look ∙ rotation_turned (group_of g t.groups)
          ∙ turned_at (members g t) (rotation g t) (first_of (round_from (rotation g t) (members g t))) d p (sym (first_of_in_turn (members g t) (rotation g t) p));
    }

stays : (g h : Ui) (t : Table) → same_ui h g ≡ false → group_of g (after_choose t (One h) []).groups ≡ group_of g t.groups
stays g h t e =
    let chosen = choice t (One h) [] in
    group_of-changed g h (turned_by chosen) (λ x. refl) t.groups ∙ ap (λ b. cond b (option_map (turned_by chosen) (group_of g t.groups)) (group_of g t.groups)) e

abbrev Turns : Ui → List Ui → Table → Type 0
Turns g hs t =
    are_distinct (members g t) ≡ true → IsPosition (rotation g t) (length (members g t)) →
    chosen_of g hs t ≡ around (times g hs) (rotation g t) (members g t)

step : (g h : Ui) (hs : List Ui) (t : Table) (b : Bool) → same_ui h g ≡ b → Turns g hs (after_choose t (One h) []) →
    are_distinct (members g t) ≡ true → IsPosition (rotation g t) (length (members g t)) →
    cond b (choice t (One h) []) [] ++ chosen_of g hs (after_choose t (One h) []) ≡ around (cond b (suc (times g hs)) (times g hs)) (rotation g t) (members g t)
step g h hs t true e k d p =
    let same : h ≡ g = from_same_ui h g e in
    let m : Moved g t (after_choose t (One h) []) = subst (λ u. Moved g t (after_choose t (One u) [])) (sym same) (moved g t d p) in
    let n = times g hs in
    let later = k (ap are_distinct m.members_stay ∙ d)
    (subst (λ i. IsPosition i (length (members g (after_choose t (One h) [])))) (sym m.rotation_moves)
    (subst (λ qs. IsPosition (wrapped (length (members g t)) (rotation g t + 1)) (length qs)) (sym m.members_stay) (wrapped-position (length (members g t)) _))) in
    ap (λ u. choice t (One u) [] ++ chosen_of g hs (after_choose t (One h) [])) same
    ∙ ap (λ o. listed o ++ chosen_of g hs (after_choose t (One h) [])) (first_of_in_turn (members g t) (rotation g t) p)
    ∙ ap (λ qs. listed (slice_get (members g t) (rotation g t)) ++ qs)
    (later ∙ ap (λ i. around n i (members g (after_choose t (One h) []))) m.rotation_moves
    ∙ ap (λ qs. around n (wrapped (length (members g t)) (rotation g t + 1)) qs) m.members_stay)
step g h hs t false e k d p =
    let same = stays g h t e in
    k (ap (λ o. are_distinct (members_in o)) same ∙ d) (subst (λ o. IsPosition (rotation_in o) (length (members_in o))) (sym same) p)
    ∙ ap (λ o. around (times g hs) (rotation_in o) (members_in o)) same

-- over any list of groups
pub turns : (g : Ui) (hs : List Ui) (t : Table) → Turns g hs t
turns g [] t d p = refl
turns g (h ∷ hs) t d p =
    step g h hs t (same_ui h g) refl (turns g hs (after_choose t (One h) [])) d p
    ∙ ap (λ n. around n (rotation g t) (members g t)) (sym (times_more (same_ui h g) (times g hs)))

drop_listed : (qs : List Ui) (i : ℕ) → drop i qs ≡ listed (slice_get qs i) ++ drop (suc i) qs
drop_listed [] zero = refl
drop_listed [] (suc i) = refl
drop_listed (q ∷ qs) zero = refl
drop_listed (q ∷ qs) (suc i) = drop_listed qs i

take_listed : (qs : List Ui) (i n : ℕ) → take (suc n) (drop i qs) ≡ listed (slice_get qs i) ++ take n (drop (suc i) qs)
take_listed [] zero zero = refl
take_listed [] zero (suc n) = refl
take_listed [] (suc i) zero = refl
take_listed [] (suc i) (suc n) = refl
take_listed (q ∷ qs) zero n = refl
take_listed (q ∷ qs) (suc i) n = take_listed qs i n

listed_first : (o : Option Ui) (qs rs : List Ui) → listed o ++ (qs ++ rs) ≡ (listed o ++ qs) ++ rs
listed_first None qs rs = refl
listed_first (Some q) qs rs = refl

-- up to the end, and on from the first
to_end : (qs : List Ui) (n i m : ℕ) → i + n ≡ length qs → around (n + m) (wrapped (length qs) i) qs ≡ drop i qs ++ around m 0 qs
to_end qs zero i m e =
    let first : wrapped (length qs) i ≡ 0 = grind (arith, nat_tests) in
    let over : drop i qs ≡ [] = drop_of_length-le qs (let long : length qs ≤ i = omega arith in long) in
    ap (λ k. around k (wrapped (length qs) i) qs) (zero-add m) ∙ ap (λ k. around m k qs) first ∙ ap (λ rs. rs ++ around m 0 qs) (sym over)
to_end qs (suc n) i m e =
    let here : wrapped (length qs) i ≡ i = grind (arith, nat_tests) in
    let one : suc n + m ≡ suc (n + m) = omega arith in
    ap (λ k. around k (wrapped (length qs) i) qs) one ∙ ap (λ k. around (suc (n + m)) k qs) here
    ∙ ap (λ rs. listed (slice_get qs i) ++ rs) (to_end qs n (i + 1) m (omega arith))
    ∙ ap (λ k. listed (slice_get qs i) ++ (drop k qs ++ around m 0 qs)) (add-one i)
    ∙ listed_first (slice_get qs i) (drop (suc i) qs) (around m 0 qs)
    ∙ ap (λ rs. rs ++ around m 0 qs) (sym (drop_listed qs i))

-- not past the end
before_end : (qs : List Ui) (n i : ℕ) → i + n ≤ length qs → around n (wrapped (length qs) i) qs ≡ take n (drop i qs)
before_end qs zero i le = refl
before_end qs (suc n) i le =
    let here : wrapped (length qs) i ≡ i = grind (arith, nat_tests) in
    ap (λ k. around (suc n) k qs) here
    ∙ ap (λ rs. listed (slice_get qs i) ++ rs) (before_end qs n (i + 1) (omega arith))
    ∙ ap (λ k. listed (slice_get qs i) ++ take n (drop k qs)) (add-one i)
    ∙ sym (take_listed qs i n)

-- once round
pub round : (qs : List Ui) (i : ℕ) → IsPosition i (length qs) → around (length qs) i qs ≡ round_from i qs
round qs i p =
    let here : wrapped (length qs) i ≡ i = grind (arith, nat_tests) in
    let first : wrapped (length qs) 0 ≡ 0 = grind (arith, nat_tests) in
    let all : (length qs - i) + i ≡ length qs = omega arith in
    ap (λ n. around n i qs) (sym all) ∙ ap (λ k. around ((length qs - i) + i) k qs) (sym here)
    ∙ to_end qs (length qs - i) i i (omega arith)
    ∙ ap (λ k. drop i qs ++ around i k qs) (sym first)
    ∙ ap (λ rs. drop i qs ++ rs) (before_end qs i 0 (omega arith))

pub round_of : (g : Ui) (hs : List Ui) (t : Table) → are_distinct (members g t) ≡ true → IsPosition (rotation g t) (length (members g t)) →
    times g hs ≡ length (members g t) → chosen_of g hs t ≡ round_from (rotation g t) (members g t)
round_of g hs t d p n =
    turns g hs t d p ∙ ap (λ k. around k (rotation g t) (members g t)) n ∙ round (members g t) (rotation g t) p
