-- Sums over the views, and how often a number stands in a list.
use Rattle.std.proofs.Common.{◌≡◌, ◌≢◌, ℕ, zero, suc, ◌+◌, ◌≤◌, eqb, List, [], ◌∷◌, ◌++◌, set, length, sym, refl, ap, arith, eq-eqb, ne_eqb}
use mathlib.Core.Option.{some, some-injective, some-ne-none}
use lib.ListN.{get_elem?}
use Rattle.chorus_turn.specs.Lists.{total, one, times}

module _ {A : Type 0} where
  pub total-set : (f : A → ℕ) (l : List A) (i : ℕ) (v w : A) → get_elem? l i ≡ some v → total f (set l i w) + f v ≡ total f l + f w
  total-set f [] i v w e = absurd (some-ne-none v (sym e))
  total-set f (x ∷ xs) zero v w e = let is : f x ≡ f v = ap f (some-injective x v e) in omega arith
  total-set f (x ∷ xs) (suc i) v w e = let more = total-set f xs i v w e in omega arith

  pub total-same : (f : A → ℕ) (l : List A) (i : ℕ) (v w : A) → get_elem? l i ≡ some v → f w ≡ f v → total f (set l i w) ≡ total f l
  total-same f l i v w e same = let t = total-set f l i v w e in omega arith

  pub total-push : (f : A → ℕ) (l : List A) (w : A) → total f (l ++ w ∷ []) ≡ total f l + f w
  total-push f [] w = omega arith
  total-push f (x ∷ xs) w = let more = total-push f xs w in omega arith

  -- the number of one element is within the sum
  pub one_within : (f : A → ℕ) (l : List A) (i : ℕ) (v : A) → get_elem? l i ≡ some v → f v ≤ total f l
  one_within f [] i v e = absurd (some-ne-none v (sym e))
  one_within f (x ∷ xs) zero v e = let is : f x ≡ f v = ap f (some-injective x v e) in omega arith
  one_within f (x ∷ xs) (suc i) v e = let more = one_within f xs i v e in omega arith

  -- and so are the numbers of two
  pub two_within : (f : A → ℕ) (l : List A) (i j : ℕ) (v w : A) → i ≢ j → get_elem? l i ≡ some v → get_elem? l j ≡ some w → f v + f w ≤ total f l
  two_within f [] i j v w apart e d = absurd (some-ne-none v (sym e))
  two_within f (x ∷ xs) zero zero v w apart e d = absurd (apart refl)
  two_within f (x ∷ xs) zero (suc j) v w apart e d = let is : f x ≡ f v = ap f (some-injective x v e) in let more = one_within f xs j w d in omega arith
  two_within f (x ∷ xs) (suc i) zero v w apart e d = let is : f x ≡ f w = ap f (some-injective x w d) in let more = one_within f xs i v e in omega arith
  two_within f (x ∷ xs) (suc i) (suc j) v w apart e d = let more = two_within f xs i j v w (λ same. apart (ap suc same)) e d in omega arith

module _ {A : Type 0} (f g : A → ℕ) (none : (x : A) → g x ≡ 0 → f x ≡ 0) where
  total-none : (l : List A) → total g l ≡ 0 → total f l ≡ 0
  total-none [] e = refl
  total-none (x ∷ xs) e = let here = none x (omega arith) in let more = total-none xs (omega arith) in omega arith

  -- an element that has all of g has all of f
  pub total-alone : (l : List A) (i : ℕ) (v : A) → get_elem? l i ≡ some v → total g l ≤ g v → total f l ≤ f v
  total-alone [] i v e le = absurd (some-ne-none v (sym e))
  total-alone (x ∷ xs) zero v e le = let s : x ≡ v = some-injective x v e in let gs = ap g s in let fs = ap f s in let more = total-none xs (omega arith) in omega arith
  total-alone (x ∷ xs) (suc i) v e le = let within = one_within g xs i v e in let here = none x (omega arith) in let more = total-alone xs i v e (omega arith) in omega arith

pub times-append : (q : ℕ) (xs ys : List ℕ) → times q (xs ++ ys) ≡ times q xs + times q ys
times-append q [] ys = omega arith
times-append q (x ∷ xs) ys = let more = times-append q xs ys in omega arith

pub one-same : (q x : ℕ) → x ≡ q → one (eqb x q) ≡ 1
one-same q x e = ap one (eq-eqb x q e)

pub one-other : (q x : ℕ) → x ≢ q → one (eqb x q) ≡ 0
one-other q x apart = ap one (ne_eqb x q apart)

pub times-none : (q : ℕ) (xs : List ℕ) → length xs ≡ 0 → times q xs ≡ 0
times-none q [] e = refl
times-none q (x ∷ xs) e = absurd (omega arith)

pub nothing_in : {A : Type 0} (xs : List A) → length xs ≡ 0 → xs ≡ []
nothing_in [] e = refl
nothing_in (x ∷ xs) e = absurd (omega arith)

pub only_one : {A : Type 0} (xs : List A) → length xs ≡ 1 → (x : A) × (xs ≡ x ∷ [])
only_one [] e = absurd (omega arith)
only_one (x ∷ xs) e = (x, ap (λ l. x ∷ l) (nothing_in xs (omega arith)))
