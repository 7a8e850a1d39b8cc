-- Places and callers replaced, two of them in either order.
use Rattle.std.proofs.Common.{ℕ, zero, suc, ◌≡◌, ◌≢◌, ◌==◌, Bool, true, false, cond, List, [], ◌∷◌, slice_get, slice_set, refl, sym, ◌∙◌, ap, arith}
use Rattle.chorus_calls.specs.Callers.{Seated}
use Rattle.law_machine.specs.PlaceState.{PlaceState}
use Rattle.law_network.specs.Network.{with_place}

pub with-swap : (s r : PlaceState) (ps : List PlaceState) → (s.number == r.number) ≡ false → with_place s (with_place r ps) ≡ with_place r (with_place s ps)
with-swap s r [] ne = refl
with-swap s r (p ∷ ps) ne = by (p.number == s.number) (p.number == r.number) refl refl (with-swap s r ps ne)
  where
    three : (a b c : ℕ) → (a == b) ≡ false → (c == a) ≡ true → (c == b) ≡ true → ⊥
    three a b c n h k = grind (arith, n, h, k)

    flip : (a b : ℕ) → (a == b) ≡ false → (b == a) ≡ false
    flip a b n = grind (arith, n)

    by : (x y : Bool) → (p.number == s.number) ≡ x → (p.number == r.number) ≡ y → with_place s (with_place r ps) ≡ with_place r (with_place s ps)
        → with_place s (cond y (r ∷ ps) (p ∷ with_place r ps)) ≡ with_place r (cond x (s ∷ ps) (p ∷ with_place s ps))
    by true true h k ih = absurd (three s.number r.number p.number ne h k)
    by true false h k ih =
        ap (λ z. cond z (s ∷ with_place r ps) (p ∷ with_place s (with_place r ps))) h
        ∙ sym (ap (λ z. cond z (r ∷ ps) (s ∷ with_place r ps)) ne)
    by false true h k ih =
        ap (λ z. cond z (s ∷ ps) (r ∷ with_place s ps)) (flip s.number r.number ne)
        ∙ sym (ap (λ z. cond z (r ∷ with_place s ps) (p ∷ with_place r (with_place s ps))) k)
    by false false h k ih =
        ap (λ z. cond z (s ∷ with_place r ps) (p ∷ with_place s (with_place r ps))) h ∙ ap (λ qs. p ∷ qs) ih
        ∙ sym (ap (λ z. cond z (r ∷ with_place s ps) (p ∷ with_place r (with_place s ps))) k)

module _ {A : Type 0} where
  pub list-swap : (xs : List A) (i j : ℕ) (x y : A) → i ≢ j → slice_set (slice_set xs j y) i x ≡ slice_set (slice_set xs i x) j y
  list-swap [] i j x y n = refl
  list-swap (z ∷ xs) zero zero x y n = absurd (n refl)
  list-swap (z ∷ xs) zero (suc j) x y n = refl
  list-swap (z ∷ xs) (suc i) zero x y n = refl
  list-swap (z ∷ xs) (suc i) (suc j) x y n = ap (λ zs. z ∷ zs) (list-swap xs i j x y (λ e. n (ap suc e)))

  pub list-other : (xs : List A) (k j : ℕ) (y : A) → k ≢ j → slice_get (slice_set xs k y) j ≡ slice_get xs j
  list-other [] k j y n = refl
  list-other (z ∷ xs) zero zero y n = absurd (n refl)
  list-other (z ∷ xs) zero (suc j) y n = refl
  list-other (z ∷ xs) (suc k) zero y n = refl
  list-other (z ∷ xs) (suc k) (suc j) y n = list-other xs k j y (λ e. n (ap suc e))

pub set-swap : (xs : List Seated) (i j : ℕ) (x y : Seated) → i ≢ j → slice_set (slice_set xs j y) i x ≡ slice_set (slice_set xs i x) j y
set-swap xs i j x y n = list-swap xs i j x y n
