-- The single facts, as the loops go over lines and bytes.
use Rattle.std.proofs.Common.{ℕ, zero, suc, ◌≡◌, ◌≢◌, ◌+◌, ◌-◌, ◌<◌, ◌≤◌, ◌==◌, Bool, true, false, cond, List, [], ◌∷◌, ◌++◌, length, map, take, drop, get_or, refl, sym, ◌∙◌, ap, ap₂, subst, arith}
use Rattle.std.specs.List.{insert}
use Rattle.std.proofs.lemmas.Bool.{false≢true, eqb-true, eq-eqb, ne_eqb}
use Rattle.std.proofs.lemmas.List.{map-append}
use Rattle.explore_report.specs.Lines.{lines_from, same_bytes}

-- Bytes that are the same.

pub same-self : (xs : List ℕ) → same_bytes xs xs ≡ true
same-self [] = refl
same-self (x ∷ xs) = ap (λ b. cond b (same_bytes xs xs) false) (eq-eqb x x refl) ∙ same-self xs

pub same-eq : (xs ys : List ℕ) → same_bytes xs ys ≡ true → xs ≡ ys
same-eq [] [] h = refl
same-eq [] (y ∷ ys) h = absurd (false≢true h)
same-eq (x ∷ xs) [] h = absurd (false≢true h)
same-eq (x ∷ xs) (y ∷ ys) h = by (x == y) refl h (same-eq xs ys)
  where
    by : (b : Bool) → (x == y) ≡ b → cond b (same_bytes xs ys) false ≡ true → (same_bytes xs ys ≡ true → xs ≡ ys) → x ∷ xs ≡ y ∷ ys
    by true e k ih = ap₂ (λ a as_. a ∷ as_) (eqb-true x y e) (ih k)
    by false e k ih = absurd (false≢true k)

no-same : (xs ys : List ℕ) → xs ≢ ys → false ≡ same_bytes xs ys
no-same xs ys apart = by (same_bytes xs ys) refl
  where
    by : (b : Bool) → same_bytes xs ys ≡ b → false ≡ same_bytes xs ys
    by true e = absurd (apart (same-eq xs ys e))
    by false e = sym e

pub decides-same : (b : Bool) (xs ys : List ℕ) → (b ≡ true → xs ≡ ys) → (b ≡ false → xs ≢ ys) → b ≡ same_bytes xs ys
decides-same true xs ys same apart = sym (subst (λ zs. same_bytes xs zs ≡ true) (same refl) (same-self xs))
decides-same false xs ys same apart = no-same xs ys (apart refl)

-- A fact that is put in.

map-take : {X Y : Type 0} (f : X → Y) (n : ℕ) (xs : List X) → map f (take n xs) ≡ take n (map f xs)
map-take f zero xs = refl
map-take f (suc n) [] = refl
map-take f (suc n) (x ∷ xs) = ap (λ ys. f x ∷ ys) (map-take f n xs)

map-drop : {X Y : Type 0} (f : X → Y) (n : ℕ) (xs : List X) → map f (drop n xs) ≡ drop n (map f xs)
map-drop f zero xs = refl
map-drop f (suc n) [] = refl
map-drop f (suc n) (x ∷ xs) = map-drop f n xs

pub map-insert : {X Y : Type 0} (f : X → Y) (xs : List X) (n : ℕ) (x : X) → map f (insert xs n x) ≡ insert (map f xs) n (f x)
map-insert f xs n x = map-append f (take n xs) (x ∷ drop n xs) ∙ ap₂ (λ a b. a ++ f x ∷ b) (map-take f n xs) (map-drop f n xs)

-- A byte more of a text.

pub front-more : (xs : List ℕ) (s i b : ℕ) → s ≤ i → i < length xs → b ≡ get_or xs i 0 → take (i + 1 - s) (drop s xs) ≡ take (i - s) (drop s xs) ++ b ∷ []
front-more [] s i b le lt e = absurd (omega (arith, lt))
front-more (x ∷ xs) zero zero b le lt e = ap (λ y. y ∷ []) (sym e)
front-more (x ∷ xs) zero (suc i) b le lt e =
    let m : suc i + 1 - 0 ≡ suc (i + 1 - 0) = omega arith in
    let n : suc i - 0 ≡ suc (i - 0) = omega arith in
    ap (λ (k : ℕ). take k (x ∷ xs)) m ∙ ap (λ ys. x ∷ ys) (front-more xs 0 i b (omega arith) (omega (arith, lt)) e) ∙ sym (ap (λ (k : ℕ). take k (x ∷ xs) ++ b ∷ []) n)
front-more (x ∷ xs) (suc s) zero b le lt e = absurd (omega (arith, le))
front-more (x ∷ xs) (suc s) (suc i) b le lt e =
    let m : suc i + 1 - suc s ≡ i + 1 - s = omega arith in
    let n : suc i - suc s ≡ i - s = omega arith in
    ap (λ (k : ℕ). take k (drop s xs)) m ∙ front-more xs s i b (omega (arith, le)) (omega (arith, lt)) e ∙ sym (ap (λ (k : ℕ). take k (drop s xs) ++ b ∷ []) n)

pub drop-first : (xs : List ℕ) (i b : ℕ) → i < length xs → b ≡ get_or xs i 0 → drop i xs ≡ b ∷ drop (i + 1) xs
drop-first [] i b lt e = absurd (omega (arith, lt))
drop-first (x ∷ xs) zero b lt e = ap (λ y. y ∷ xs) (sym e)
drop-first (x ∷ xs) (suc i) b lt e = (let n : i + 1 ≡ suc i = omega arith in drop-first xs i b (omega (arith, lt)) e ∙ ap (λ (k : ℕ). b ∷ drop k xs) n) ∙ (let m : suc (suc i) ≡ suc i + 1 = omega arith in ap (λ (k : ℕ). b ∷ drop k (x ∷ xs)) m)

-- a line that ends here, or goes on
pub line-ends : (before rest : List ℕ) (b : ℕ) → b ≡ 10 → lines_from before (b ∷ rest) ≡ (before ++ b ∷ []) ∷ lines_from [] rest
line-ends before rest b e = ap (λ c. cond c ((before ++ b ∷ []) ∷ lines_from [] rest) (lines_from (before ++ b ∷ []) rest)) (eq-eqb b 10 e)

pub line-goes-on : (before rest : List ℕ) (b : ℕ) → b ≢ 10 → lines_from before (b ∷ rest) ≡ lines_from (before ++ b ∷ []) rest
line-goes-on before rest b ne = ap (λ c. cond c ((before ++ b ∷ []) ∷ lines_from [] rest) (lines_from (before ++ b ∷ []) rest)) (ne_eqb b 10 ne)
