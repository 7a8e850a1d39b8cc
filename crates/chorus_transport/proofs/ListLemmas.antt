-- What a list has at a place, for the lists that a line remembers.
use Rattle.std.proofs.Common.{◌≡◌, ℕ, zero, suc, ◌+◌, ◌⊎◌, inl, inr, ⊎_elim, List, [], ◌∷◌, ◌++◌, get_or, set, drop, Option, None, Some, refl, sym, ◌∙◌, ap, zero-add, arith}
use Rattle.std.specs.Prelude.{slice_get, IfSome}
use Rattle.std.proofs.lemmas.Option.{none-some, same_Some, IfSome_then}

-- what is there stays where the list grows
pub slice_get-append : {A : Type 0} (xs ys : List A) (k : ℕ) (x : A) → slice_get xs k ≡ Some x → slice_get (xs ++ ys) k ≡ Some x
slice_get-append [] ys k x e = absurd (none-some x e)
slice_get-append (y ∷ xs) ys zero x e = e
slice_get-append (y ∷ xs) ys (suc k) x e = slice_get-append xs ys k x e

pub slice_get-drop : {A : Type 0} (n : ℕ) (xs : List A) (k : ℕ) → slice_get (drop n xs) k ≡ slice_get xs (n + k)
slice_get-drop zero xs k = ap (slice_get xs) (sym (zero-add k))
slice_get-drop (suc n) [] k = refl
slice_get-drop (suc n) (x ∷ xs) k =
    let e : suc (n + k) ≡ suc n + k = omega arith in
    slice_get-drop n xs k ∙ ap (slice_get (x ∷ xs)) e

-- P of each element
abbrev pub Each : {A : Type 0} → (A → Type 0) → List A → Type 0
Each P xs = (k : ℕ) → IfSome (slice_get xs k) P

pub Each-push : {A : Type 0} (P : A → Type 0) (xs : List A) (x : A) → Each P xs → P x → Each P (xs ++ x ∷ [])
Each-push P [] x each here zero = here
Each-push P [] x each here (suc k) = tt
Each-push P (y ∷ ys) x each here zero = each zero
Each-push P (y ∷ ys) x each here (suc k) = Each-push P ys x (λ j. each (suc j)) here k

pub Each-weaker : {A : Type 0} (P Q : A → Type 0) (xs : List A) → ((x : A) → P x → Q x) → Each P xs → Each Q xs
Each-weaker P Q xs weaker each k = IfSome_then (slice_get xs k) (each k) weaker

-- what is found after a place was filled was there, or is what it was filled with
pub set_cases : {A : Type 0} (xs : List (Option A)) (k : ℕ) (x : A) (j : ℕ) (y : A) → get_or (set xs k (Some x)) j None ≡ Some y → (get_or xs j None ≡ Some y) ⊎ ((j ≡ k) × (x ≡ y))
set_cases [] k x j y e = absurd (none-some y e)
set_cases (o ∷ xs) zero x zero y e = inr (refl, same_Some x y e)
set_cases (o ∷ xs) zero x (suc j) y e = inl e
set_cases (o ∷ xs) (suc k) x zero y e = inl e
set_cases (o ∷ xs) (suc k) x (suc j) y e = ⊎_elim inl (λ p. inr (ap suc p.0, p.1)) (set_cases xs k x j y e)
