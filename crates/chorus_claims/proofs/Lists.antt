-- What is in a list, what is so of all of it, and words that are the same.
use Rattle.std.proofs.Common.{ℕ, zero, suc, ◌≡◌, ◌<◌, ◌==◌, Bool, true, false, ◌&&◌, List, [], ◌∷◌, ◌++◌, ◌⊎◌, inl, inr, refl, sym, ◌∙◌, ap, ap₂, subst, arith}
use Rattle.std.specs.List.{Contains, flat_map, list_all}
use Rattle.std.specs.Str.{bytes_eq}
use Rattle.std.proofs.lemmas.Slice.Eq.{bytes_eq-Decides}
use Rattle.std.proofs.lemmas.List.Elements.{Contains-append_left, Contains-append_right, Contains-append_cases}
use Rattle.std.proofs.lemmas.List.Concat.{flat_map-cons}
use Rattle.std.proofs.lemmas.List.Folds.{list_all-append}

pub and-true : (b : Bool) → (b && true) ≡ b
and-true true = refl
and-true false = refl

module _ {X : Type 0} where
  pub none : (x : X) → Contains [] x → ⊥
  none x h = let lt = h.1 in omega (arith, lt)

  pub here : (x : X) (xs : List X) → Contains (x ∷ xs) x
  here x xs = (zero, omega arith, refl)

  pub there : (x z : X) (xs : List X) → Contains xs x → Contains (z ∷ xs) x
  there x z xs h = let lt = h.1 in (suc h.0, omega (arith, lt), h.2)

  pub which : (x z : X) (xs : List X) → Contains (z ∷ xs) x → (z ≡ x) ⊎ Contains xs x
  which x z xs (zero, lt, e) = inl e
  which x z xs (suc k, lt, e) = inr (k, omega (arith, lt), e)

module _ {X A : Type 0} (f : X → List A) where
  pub in-flat : (xs : List X) (x : X) (a : A) → Contains xs x → Contains (f x) a → Contains (flat_map f xs) a
  in-flat [] x a h k = absurd (none x h)
  in-flat (z ∷ xs) x a h k = subst (λ ys. Contains ys a) (sym (flat_map-cons f z xs)) (by (which x z xs h) (λ j. in-flat xs x a j k))
    where
      by : (z ≡ x) ⊎ Contains xs x → (Contains xs x → Contains (flat_map f xs) a) → Contains (f z ++ flat_map f xs) a
      by (inl e) ih = Contains-append_left (f z) (flat_map f xs) a (subst (λ y. Contains (f y) a) (sym e) k)
      by (inr j) ih = Contains-append_right (f z) (flat_map f xs) a (ih j)

  pub of-flat : (xs : List X) (a : A) → Contains (flat_map f xs) a → (x : X) × (Contains xs x × Contains (f x) a)
  of-flat [] a h = absurd (none a h)
  of-flat (z ∷ xs) a h = by (Contains-append_cases (f z) (flat_map f xs) a (subst (λ ys. Contains ys a) (flat_map-cons f z xs) h)) (of-flat xs a)
    where
      by : Contains (f z) a ⊎ Contains (flat_map f xs) a → (Contains (flat_map f xs) a → (x : X) × (Contains xs x × Contains (f x) a)) → (x : X) × (Contains (z ∷ xs) x × Contains (f x) a)
      by (inl k) ih = (z, (here z xs, k))
      by (inr k) ih = let r = ih k in (r.0, (there r.0 z xs r.1.0, r.1.1))

  -- all of what a list is made of
  pub all-flat : (p : A → Bool) (xs : List X) → list_all p (flat_map f xs) ≡ list_all (λ (x : X). list_all p (f x)) xs
  all-flat p [] = refl
  all-flat p (z ∷ xs) = ap (list_all p) (flat_map-cons f z xs) ∙ list_all-append p (f z) (flat_map f xs) ∙ ap (λ (b : Bool). list_all p (f z) && b) (all-flat p xs)

  pub all-one : (p : A → Bool) (x : X) → list_all p (flat_map f (x ∷ [])) ≡ list_all p (f x)
  all-one p x = all-flat p (x ∷ []) ∙ and-true (list_all p (f x))

pub all-same : {X : Type 0} (p q : X → Bool) (xs : List X) → ((x : X) → p x ≡ q x) → list_all p xs ≡ list_all q xs
all-same p q [] same = refl
all-same p q (x ∷ xs) same = ap₂ (λ (a b : Bool). a && b) (same x) (all-same p q xs same)

pub from-bytes : (xs ys : List ℕ) → bytes_eq xs ys ≡ true → xs ≡ ys
from-bytes xs ys h = (bytes_eq-Decides xs ys).0 h

pub same-self : (xs : List ℕ) → bytes_eq xs xs ≡ true
same-self xs = (bytes_eq-Decides xs xs).1 refl
