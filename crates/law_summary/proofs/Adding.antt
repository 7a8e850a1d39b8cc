-- Sums over entries that are told by a key: each key once, they are the sum of what each key tells.
use Rattle.std.proofs.Common.{ℕ, ◌≡◌, ◌+◌, ◌*◌, Bool, true, false, cond, List, [], ◌∷◌, reverse, sum_by, count_by, refl, sym, ◌∙◌, ap, arith}
use Rattle.std.proofs.lemmas.List.{reverse-append}
use Rattle.std.proofs.lemmas.List.Sums.{sum_by-cons, sum_by-append}

-- the order of the entries is nothing to a sum
pub sum-reverse : {X : Type 0} → (f : X → ℕ) (xs : List X) → sum_by f (reverse xs) ≡ sum_by f xs
sum-reverse f [] = refl
sum-reverse f (x ∷ xs) =
    ap (sum_by f) (reverse-append (x ∷ []) xs)
    ∙ (sum_by-append f (reverse xs) (x ∷ [])
    ∙ (ap (λ n. n + sum_by f (x ∷ [])) (sum-reverse f xs) ∙ (swap (sum_by f xs) ∙ sym (sum_by-cons f x xs))))
  where
    swap : (n : ℕ) → n + (0 + f x) ≡ f x + n
    swap n = omega arith

pub sum-zero : {X : Type 0} → (xs : List X) → sum_by (λ x. 0) xs ≡ 0
sum-zero [] = refl
sum-zero (x ∷ xs) = sum_by-cons (λ y. 0) x xs ∙ (let e = sum-zero xs in omega (arith, e))

pub sum-add : {X : Type 0} → (f g : X → ℕ) (xs : List X) → sum_by (λ x. f x + g x) xs ≡ sum_by f xs + sum_by g xs
sum-add f g [] = omega arith
sum-add f g (x ∷ xs) =
    let a = sum_by-cons (λ y. f y + g y) x xs in
    let b = sum_by-cons f x xs in
    let c = sum_by-cons g x xs in
    let ih = sum-add f g xs in
    omega (arith, a, b, c, ih)

-- one of the keys tells all of it
pub sum-one : {X : Type 0} → (test : X → Bool) (n : ℕ) (xs : List X) → count_by test xs ≡ 1 → sum_by (λ x. cond (test x) n 0) xs ≡ n
sum-one test n xs h = times test n xs ∙ (ap (λ k. k * n) h ∙ (let e : 1 * n ≡ n = omega arith in e))
  where
    times : {X : Type 0} → (test : X → Bool) (n : ℕ) (xs : List X) → sum_by (λ x. cond (test x) n 0) xs ≡ count_by test xs * n
    times test n [] = (let e : 0 ≡ 0 * n = omega arith in e)
    times test n (x ∷ xs) =
        sum_by-cons (λ y. cond (test y) n 0) x xs
        ∙ (ap (λ k. cond (test x) n 0 + k) (times test n xs) ∙ (by (test x) (count_by test xs) ∙ ap (λ k. k * n) (sym (sum_by-cons (λ y. cond (test y) 1 0) x xs))))
      where
        by : (b : Bool) (m : ℕ) → cond b n 0 + m * n ≡ (cond b 1 0 + m) * n
        by true m = grind arith
        by false m = (let a : 0 + m * n ≡ m * n = omega arith in let e : m ≡ 0 + m = omega arith in a ∙ ap (λ k. k * n) e)

-- of each element of a list
abbrev pub Each : {X : Type 0} → (X → Type 0) → List X → Type 0
Each P [] = Unit {0}
Each P (x ∷ xs) = P x × Each P xs

pub each-more : {X : Type 0} → (P Q : X → Type 0) → ((x : X) → P x → Q x) → (xs : List X) → Each P xs → Each Q xs
each-more P Q f [] h = tt
each-more P Q f (x ∷ xs) h = (f x h.0, each-more P Q f xs h.1)

pub sum-same : {X : Type 0} → (f g : X → ℕ) → ((x : X) → f x ≡ g x) → (xs : List X) → sum_by f xs ≡ sum_by g xs
sum-same f g e xs i = sum_by (λ x. e x i) xs

-- where what each element tells is told by the keys together, the sum is that of what each key tells
pub sum-by-keys : {X K : Type 0} → (weight : X → ℕ) (part : K → X → ℕ) (keys : List K) (xs : List X) → Each (λ (x : X). sum_by (λ k. part k x) keys ≡ weight x) xs → sum_by weight xs ≡ sum_by (λ k. sum_by (part k) xs) keys
sum-by-keys weight part keys [] told = sym (sum-zero keys)
sum-by-keys weight part keys (x ∷ xs) told =
    sum_by-cons weight x xs
    ∙ ((λ i. sym told.0 i + sum-by-keys weight part keys xs told.1 i)
    ∙ (sym (sum-add (λ k. part k x) (λ k. sum_by (part k) xs) keys)
    ∙ sum-same (λ k. part k x + sum_by (part k) xs) (λ k. sum_by (part k) (x ∷ xs)) (λ k. sym (sum_by-cons (part k) x xs)) keys))
