-- The row of a group at a place after one entry more.
use Rattle.std.proofs.Common.{◌≡◌, ◌==◌, Bool, true, false, ◌&&◌, ◌||◌, cond, List, ◌∷◌, Some, refl, sym, ◌∙◌, ap}
use Rattle.std.proofs.lemmas.Bool.{false≢true}
use Rattle.chorus_ui.specs.declared.ui.Ui.{Ui}
use Rattle.chorus_ui.specs.Name.{same_ui}
use Rattle.chorus_entry.specs.declared.entry.Entry.{Entry}
use Rattle.chorus_entry.specs.declared.act.Act.{Act}
use Rattle.chorus_entry.specs.declared.act.Act.TheVariants.{GroupMake, Join, Leave, Choose}
use Rattle.chorus_entry.specs.Members.{without, turned, turned_back}
use Rattle.chorus_world.specs.Views.{at, is_group}
use Rattle.chorus_world.specs.Groups.{members, rotation}
use Rattle.checker_rows.specs.Keys.{same_name_at}
use Rattle.checker_ledger.specs.Groups.{GroupRow, group_row, group_here, joined_here, changed_here, changed_own, changed_group, group_after}
use Rattle.checker_rows.specs.declared.keys.NameAt.{NameAt}

abbrev row_of : Ui → List Entry → GroupRow
row_of g here = record { made = is_group g here; members = members g here; rotation = rotation g here }

group_case : (e : Entry) (g : Ui) (here : List Entry) (b : Bool) → row_of g (cond b (e ∷ here) here) ≡ cond b (group_here g e.act (row_of g here)) (row_of g here)
group_case e g here true = refl
group_case e g here false = refl

pub group_grows : (past : List Entry) (e : Entry) (k : NameAt) → group_row (e ∷ past) k ≡ group_after k e (group_row past k)
group_grows past e k = group_case e k.name (at k.place past) (e.place == k.place)

both_case : (g : Ui) (a : Act) (r : GroupRow) → changed_here g a (joined_here g a r) ≡ group_here g a r
both_case g (Join h q) r = refl
both_case g _ r = refl

-- a join, and what else the entry makes of the group
pub both_are : (k : NameAt) (e : Entry) (r s t : GroupRow) → s ≡ cond (e.place == k.place) (joined_here k.name e.act r) r → t ≡ cond (e.place == k.place) (changed_here k.name e.act s) s → t ≡ group_after k e r
both_are k e r s t h j = j ∙ (ap (λ z. cond (e.place == k.place) (changed_here k.name e.act z) z) h ∙ go (e.place == k.place))
  where
    go : (b : Bool) → cond b (changed_here k.name e.act (cond b (joined_here k.name e.act r) r)) (cond b (joined_here k.name e.act r) r) ≡ cond b (group_here k.name e.act r) r
    go true = both_case k.name e.act r
    go false = refl

-- the group that the act names changes as its own, and no other does

own_case : (g h : Ui) (a : Act) (r : GroupRow) → changed_group a ≡ Some h → same_ui h g ≡ true → changed_here g a r ≡ changed_own a r
own_case g h (GroupMake k) r n s = ap (λ b. record { made = b || r.made; members = r.members; rotation = r.rotation }) (ap (λ u. same_ui u g) (some_is k h n) ∙ s)
  where
    some_is : (k h : Ui) → Some k ≡ Some h → k ≡ h
    some_is k h e = cc
own_case g h (Leave k q) r n s =
    ap (λ b. record { made = r.made; members = cond b (without q r.members) r.members; rotation = cond b (turned_back r.members q r.rotation) r.rotation }) (ap (λ u. same_ui u g) (some_is k h n) ∙ s)
  where
    some_is : (k h : Ui) → Some k ≡ Some h → k ≡ h
    some_is k h e = cc
own_case g h (Choose x k qs) r n s =
    ap (λ b. record { made = r.made; members = r.members; rotation = cond b (turned r.members qs r.rotation) r.rotation }) (ap (λ u. same_ui u g) (some_is k h n) ∙ s)
  where
    some_is : (k h : Ui) → Some k ≡ Some h → k ≡ h
    some_is k h e = cc
own_case g h _ r n s = absurd (cc)

pub changes_own : (k : NameAt) (e : Entry) (h : Ui) (r : GroupRow) → changed_group e.act ≡ Some h → (e.place == k.place) ≡ true → same_ui h k.name ≡ true → cond (e.place == k.place) (changed_here k.name e.act r) r ≡ changed_own e.act r
changes_own k e h r n p s = ap (λ b. cond b (changed_here k.name e.act r) r) p ∙ own_case k.name h e.act r n s

other_case : (g h : Ui) (a : Act) (r : GroupRow) → changed_group a ≡ Some h → same_ui h g ≡ false → changed_here g a r ≡ r
other_case g h (GroupMake k) r n s = ap (λ b. record { made = b || r.made; members = r.members; rotation = r.rotation }) (ap (λ u. same_ui u g) (some_is k h n) ∙ s)
  where
    some_is : (k h : Ui) → Some k ≡ Some h → k ≡ h
    some_is k h e = cc
other_case g h (Leave k q) r n s =
    ap (λ b. record { made = r.made; members = cond b (without q r.members) r.members; rotation = cond b (turned_back r.members q r.rotation) r.rotation }) (ap (λ u. same_ui u g) (some_is k h n) ∙ s)
  where
    some_is : (k h : Ui) → Some k ≡ Some h → k ≡ h
    some_is k h e = cc
other_case g h (Choose x k qs) r n s =
    ap (λ b. record { made = r.made; members = r.members; rotation = cond b (turned r.members qs r.rotation) r.rotation }) (ap (λ u. same_ui u g) (some_is k h n) ∙ s)
  where
    some_is : (k h : Ui) → Some k ≡ Some h → k ≡ h
    some_is k h e = cc
other_case g h _ r n s = absurd (cc)

and_case : (b c : Bool) (r s : GroupRow) → (b && c) ≡ false → (c ≡ false → s ≡ r) → cond b s r ≡ r
and_case true true r s h k = absurd (false≢true (sym h))
and_case true false r s h k = k refl
and_case false c r s h k = refl

pub changes_other : (k : NameAt) (e : Entry) (h : Ui) → changed_group e.act ≡ Some h → same_name_at (record { place = e.place; name = h }) k ≡ false → (r : GroupRow) → cond (e.place == k.place) (changed_here k.name e.act r) r ≡ r
changes_other k e h n s r = and_case (e.place == k.place) (same_ui h k.name) r (changed_here k.name e.act r) s (λ d. other_case k.name h e.act r n d)
