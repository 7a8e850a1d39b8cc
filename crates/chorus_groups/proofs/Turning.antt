-- A choice that was made, of one member or not.
use Rattle.std.proofs.Common.{◌≡◌, Bool, true, false, cond, Some, None, List, [], ◌∷◌, refl, ap}
use Rattle.chorus_ui.specs.declared.ui.Ui.{Ui}
use Rattle.chorus_ui.specs.Name.{same_ui}
use Rattle.chorus_groups.specs.Groups.{Group, changed}
use Rattle.chorus_groups.specs.Choosing.{turned_by, only}

pub only_one : (qs : List Ui) (q : Ui) → only qs ≡ Some q → qs ≡ q ∷ []
only_one [] q h = cc
only_one (p ∷ []) q h = cc
only_one (p ∷ r ∷ rs) q h = cc

pub only_none : (qs : List Ui) → only qs ≡ None → (x : Group) → turned_by qs x ≡ x
only_none [] h x = refl
only_none (p ∷ []) h x = cc
only_none (p ∷ r ∷ rs) h x = refl

-- a change that leaves each group leaves all
pub changed_stays : (g : Ui) (f : Group → Group) (xs : List Group) → ((x : Group) → f x ≡ x) → changed g f xs ≡ xs
changed_stays g f [] same = refl
changed_stays g f (x ∷ xs) same = by (same_ui x.ui g) (changed_stays g f xs same)
  where
    by : (b : Bool) → changed g f xs ≡ xs → cond b (f x ∷ xs) (x ∷ changed g f xs) ≡ x ∷ xs
    by true e = ap (λ y. y ∷ xs) (same x)
    by false e = ap (λ ys. x ∷ ys) e
