-- What one pass over a list reads.
use Rattle.std.proofs.Common.{◌≡◌, ℕ, ◌+◌, Bool, true, false, ◌&&◌, Some, List, ◌∷◌, drop, slice_get, ◌∙◌, ap}
use Rattle.std.specs.List.{list_all}
use Rattle.std.proofs.lemmas.Option.{slice_get_within, get_or_from_slice_get}
use Rattle.std.proofs.lemmas.List.{drop_more}

-- a test of all that are left, and of the first of them
pub all-from : {A : Type 0} (f : A → Bool) (xs : List A) (i : ℕ) (x : A) → slice_get xs i ≡ Some x → list_all f (drop i xs) ≡ f x && list_all f (drop (i + 1) xs)
all-from f xs i x h = ap (list_all f) (drop_more xs i x (slice_get_within xs i x h) ∙ ap (λ y. y ∷ drop (i + 1) xs) (get_or_from_slice_get xs i x x h))

pub all-fails : {A : Type 0} (f : A → Bool) (xs : List A) (i : ℕ) (x : A) → slice_get xs i ≡ Some x → f x ≡ false → list_all f (drop i xs) ≡ false
all-fails f xs i x h fails = all-from f xs i x h ∙ ap (λ b. b && list_all f (drop (i + 1) xs)) fails

pub all-passes : {A : Type 0} (f : A → Bool) (xs : List A) (i : ℕ) (x : A) → slice_get xs i ≡ Some x → f x ≡ true → list_all f (drop i xs) ≡ list_all f (drop (i + 1) xs)
all-passes f xs i x h passes = all-from f xs i x h ∙ ap (λ b. b && list_all f (drop (i + 1) xs)) passes
