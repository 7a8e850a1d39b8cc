-- Sums and lists over places.
use Rattle.std.proofs.Common.{ℕ, zero, suc, ◌≡◌, ◌<◌, ◌==◌, Bool, true, false, cond, List, [], ◌++◌, refl, ap₂, arith}
use Rattle.law_history.specs.Counts.{total}
use Rattle.law_history.specs.Places.{up_to, from_one, by_link}

pub total-upto : (n : ℕ) (f g : ℕ → ℕ) → ((p : ℕ) → p < n → f p ≡ g p) → total n f ≡ total n g
total-upto zero f g h = refl
total-upto (suc n) f g h =
    let ih = total-upto n f g (λ p lt. h p (omega (arith, lt))) in let one = h n (omega arith) in omega (arith, ih, one)

-- where no link holds anything there is nothing in all
none-up-to : {A : Type 0} (n : ℕ) (f : ℕ → List A) → ((p : ℕ) → f p ≡ []) → up_to n f ≡ []
none-up-to zero f h = refl
none-up-to (suc n) f h = ap₂ (λ xs ys. xs ++ ys) (none-up-to n f h) (h (suc n))

none-if : {A : Type 0} (b : Bool) (xs : List A) → xs ≡ [] → cond b [] xs ≡ []
none-if true xs h = refl
none-if false xs h = h

pub none-by-link : {A : Type 0} (n : ℕ) (f : ℕ → ℕ → List A) → ((a b : ℕ) → f a b ≡ []) → by_link n f ≡ []
none-by-link n f h = none-up-to n (from_one n f) (λ a. none-up-to n (λ b. cond (b == a) [] (f a b)) (λ b. none-if (b == a) (f a b) (h a b)))
