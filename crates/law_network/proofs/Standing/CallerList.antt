-- The list of the callers with one more at its end, and with one replaced.
use Rattle.std.proofs.Common.{ℕ, zero, suc, ◌≡◌, ◌≢◌, List, [], ◌∷◌, ◌++◌, Some, slice_get, slice_set, refl, ap}
use Rattle.chorus_calls.specs.Callers.{Seated}

pub get-more : (xs ys : List Seated) (k : ℕ) (x : Seated) → slice_get xs k ≡ Some x → slice_get (xs ++ ys) k ≡ Some x
get-more [] ys k x h = cc
get-more (y ∷ xs) ys zero x h = h
get-more (y ∷ xs) ys (suc k) x h = get-more xs ys k x h

pub get-replaced : (xs : List Seated) (k : ℕ) (x y : Seated) → slice_get xs k ≡ Some x → slice_get (slice_set xs k y) k ≡ Some y
get-replaced [] k x y h = cc
get-replaced (z ∷ xs) zero x y h = refl
get-replaced (z ∷ xs) (suc k) x y h = get-replaced xs k x y h

pub get-other : (xs : List Seated) (k j : ℕ) (y : Seated) → k ≢ j → slice_get (slice_set xs k y) j ≡ slice_get xs j
get-other [] k j y n = refl
get-other (z ∷ xs) zero zero y n = absurd (n refl)
get-other (z ∷ xs) zero (suc j) y n = refl
get-other (z ∷ xs) (suc k) zero y n = refl
get-other (z ∷ xs) (suc k) (suc j) y n = get-other xs k j y (λ e. n (ap suc e))
