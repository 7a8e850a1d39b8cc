-- Where so many seats are all those below their number, no seat stands twice among them.
-- q and x are seats, xs is a list of them, i and j are indices, m is a number.
use Rattle.std.proofs.Common.{ℕ, zero, suc, ◌≡◌, ◌<◌, ◌≤◌, ◌⊎◌, inl, inr, List, [], ◌∷◌, length, Some, slice_get, refl, sym, ◌∙◌, ap, subst, arith}
use Rattle.std.proofs.lemmas.Bool.{cases_order}
use Rattle.chorus_sessions.proofs.Lists.{In}

abbrev without : ℕ → List ℕ → List ℕ
without j [] = []
without zero (y ∷ xs) = xs
without (suc j) (y ∷ xs) = y ∷ without j xs

one-less : (xs : List ℕ) (j x : ℕ) → slice_get xs j ≡ Some x → suc (length (without j xs)) ≡ length xs
one-less [] j x h = absurd (cc)
one-less (y ∷ xs) zero x h = refl
one-less (y ∷ xs) (suc j) x h = ap suc (one-less xs j x h)

-- what stands there is the one that was left out, or stands there still
in-without : (xs : List ℕ) (j q x : ℕ) → slice_get xs j ≡ Some x → In q xs → (x ≡ q) ⊎ In q (without j xs)
in-without [] j q x h there = absurd there
in-without (y ∷ xs) zero q x h (inl is) = let e : y ≡ x = cc in inl (sym e ∙ is)
in-without (y ∷ xs) zero q x h (inr there) = inr there
in-without (y ∷ xs) (suc j) q x h (inl is) = inr (inl is)
in-without (y ∷ xs) (suc j) q x h (inr there) = go (in-without xs j q x h there)
  where
    go : (x ≡ q) ⊎ In q (without j xs) → (x ≡ q) ⊎ In q (y ∷ without j xs)
    go (inl is) = inl is
    go (inr more) = inr (inr more)

-- what stands before the index stands there still
in-before : (xs : List ℕ) (i j x : ℕ) → slice_get xs i ≡ Some x → i < j → In x (without j xs)
in-before [] i j x h lt = absurd (cc)
in-before (y ∷ xs) i zero x h lt = absurd (omega (arith, lt))
in-before (y ∷ xs) zero (suc j) x h lt = let e : y ≡ x = cc in inl e
in-before (y ∷ xs) (suc i) (suc j) x h lt = inr (in-before xs i j x h (omega (arith, lt)))

index-of : (xs : List ℕ) (q : ℕ) → In q xs → (j : ℕ) × (slice_get xs j ≡ Some q)
index-of [] q there = absurd there
index-of (y ∷ xs) q (inl is) = (zero, ap Some is)
index-of (y ∷ xs) q (inr there) = let at = index-of xs q there in (suc at.0, at.1)

-- a number below the one that was left out stands there still
below : (q m : ℕ) (xs : List ℕ) → q < m → (m ≡ q) ⊎ In q xs → In q xs
below q m xs lt (inl is) = absurd (omega (arith, lt, is))
below q m xs lt (inr there) = there

-- a list of all numbers below m is no shorter than m
no-fewer : (m : ℕ) (xs : List ℕ) → ((q : ℕ) → q < m → In q xs) → m ≤ length xs
no-fewer zero xs all = omega arith
no-fewer (suc m) xs all =
    let at = index-of xs m (all m (omega arith)) in
    let less = one-less xs at.0 m at.1 in
    let rest = no-fewer m (without at.0 xs) (λ q lt. below q m (without at.0 xs) lt (in-without xs at.0 q m at.1 (all q (omega (arith, lt))))) in
    omega (arith, less, rest)

-- what was left out and stands there still is there
kept : (q x : ℕ) (xs : List ℕ) → In x xs → (x ≡ q) ⊎ In q xs → In q xs
kept q x xs there (inl is) = subst (λ k. In k xs) is there
kept q x xs there (inr more) = more

apart : (xs : List ℕ) (i j x : ℕ) → ((q : ℕ) → q < length xs → In q xs) → slice_get xs i ≡ Some x → slice_get xs j ≡ Some x → i < j → ⊥
apart xs i j x all here there lt =
    let less = one-less xs j x there in
    let rest = no-fewer (length xs) (without j xs) (λ q low. kept q x (without j xs) (in-before xs i j x here lt) (in-without xs j q x there (all q low))) in
    omega (arith, less, rest)

pub one-index : (xs : List ℕ) (i j x : ℕ) → ((q : ℕ) → q < length xs → In q xs) → slice_get xs i ≡ Some x → slice_get xs j ≡ Some x → i ≡ j
one-index xs i j x all here there = elim (cases_order i j) [
  | inl is ↦ is
  | inr (inl lt) ↦ absurd (apart xs i j x all here there lt)
  | inr (inr gt) ↦ absurd (apart xs j i x all there here gt)
]
