-- The row of a place after one entry more.
use Rattle.std.proofs.Common.{ℕ, ◌≡◌, ◌==◌, ◌+◌, ◌≤◌, Bool, true, false, cond, List, [], ◌∷◌, length, refl, ap, arith}
use Rattle.std.proofs.lemmas.Bool.{eq-eqb}
use Rattle.std.specs.List.{filter}
use Rattle.chorus_entry.specs.declared.entry.Entry.{Entry}
use Rattle.chorus_entry.specs.declared.act.Act.{Act}
use Rattle.chorus_entry.specs.declared.act.Act.TheVariants.{Make, GroupMake}
use Rattle.chorus_entry.specs.Order.{is_at}
use Rattle.chorus_world.specs.Views.{at}
use Rattle.chorus_world.specs.Places.{ports_after, ports_made}
use Rattle.chorus_world.specs.Groups.{groups_after, groups_made}
use Rattle.checker_rows.specs.Places.{fold_place, place_row, place_here, place_after}
use Rattle.checker_rows.specs.declared.places.PlaceRow.{PlaceRow}

place_case : (e : Entry) (here : List Entry) (b : Bool) → fold_place (cond b (e ∷ here) here) ≡ cond b (place_here e (fold_place here)) (fold_place here)
place_case e here true = refl
place_case e here false = refl

pub place_grows : (past : List Entry) (e : Entry) (p : ℕ) → place_row (e ∷ past) p ≡ place_after p e (place_row past p)
place_grows past e p = place_case e (at p past) (e.place == p)

pub place_apart : (p : ℕ) (e : Entry) → (e.place == p) ≡ false → (r : PlaceRow) → place_after p e r ≡ r
place_apart p e h r = ap (λ b. cond b (place_here e r) r) h

pub place_own : (e : Entry) (r : PlaceRow) → place_after e.place e r ≡ place_here e r
place_own e r = ap (λ b. cond b (place_here e r) r) (eq-eqb e.place e.place refl)

-- no more ports and groups than entries
ports_case : (a : Act) (n k : ℕ) → n ≤ k → ports_after a n ≤ k + 1
ports_case (Make q b c) n k h = omega arith
ports_case _ n k h = omega arith

groups_case : (a : Act) (n k : ℕ) → n ≤ k → groups_after a n ≤ k + 1
groups_case (GroupMake g) n k h = omega arith
groups_case _ n k h = omega arith

pub ports_few : (es : List Entry) → ports_made es ≤ length es
ports_few [] = omega arith
ports_few (e ∷ es) = let h = ports_case e.act (ports_made es) (length es) (ports_few es) in omega (arith, h)

pub groups_few : (es : List Entry) → groups_made es ≤ length es
groups_few [] = omega arith
groups_few (e ∷ es) = let h = groups_case e.act (groups_made es) (length es) (groups_few es) in omega (arith, h)

filter_case : (t : Entry → Bool) (e : Entry) (es : List Entry) (b : Bool) → length (filter t es) ≤ length es → length (cond b (e ∷ filter t es) (filter t es)) ≤ length (e ∷ es)
filter_case t e es true h = omega arith
filter_case t e es false h = omega arith

pub filter_few : (t : Entry → Bool) (es : List Entry) → length (filter t es) ≤ length es
filter_few t [] = omega arith
filter_few t (e ∷ es) = filter_case t e es (t e) (filter_few t es)

pub few_ports : (past : List Entry) (p : ℕ) → ports_made (at p past) ≤ length past
few_ports past p = let h = ports_few (at p past) in let k = filter_few (is_at p) past in omega (arith, h, k)

pub few_groups : (past : List Entry) (p : ℕ) → groups_made (at p past) ≤ length past
few_groups past p = let h = groups_few (at p past) in let k = filter_few (is_at p) past in omega (arith, h, k)
