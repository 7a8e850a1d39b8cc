-- How many lines a text has, byte by byte.
use Rattle.std.proofs.Common.{ℕ, zero, suc, ◌≡◌, ◌≢◌, ◌+◌, ◌==◌, ◌<◌, Bool, true, false, cond, List, [], ◌∷◌, ◌++◌, length, get_or, drop, refl, sym, ◌∙◌, ap, arith}
use Rattle.std.proofs.lemmas.Bool.{eq-eqb, eqb-true}
use Rattle.explore_report.specs.Lines.{lines_from, lines_in}

drop-at : (xs : List ℕ) (i : ℕ) → i < length xs → drop i xs ≡ get_or xs i 0 ∷ drop (i + 1) xs
drop-at [] i lt = absurd (omega (arith, lt))
drop-at (x ∷ xs) zero lt = refl
drop-at (x ∷ xs) (suc i) lt = (let n : i + 1 ≡ suc i = omega arith in let m : suc i + 1 ≡ suc (suc i) = omega arith in drop-at xs i (omega (arith, lt)) ∙ ap (λ (k : ℕ). get_or xs i 0 ∷ drop k xs) n ∙ sym (ap (λ (k : ℕ). get_or xs i 0 ∷ drop k (x ∷ xs)) m))

-- it does not hang on what stands before
lines-after : (before other bytes : List ℕ) → length (lines_from before bytes) ≡ length (lines_from other bytes)
lines-after before other [] = refl
lines-after before other (b ∷ bytes) = by (b == 10) (lines-after (before ++ b ∷ []) (other ++ b ∷ []) bytes)
  where
    by : (ends : Bool) → length (lines_from (before ++ b ∷ []) bytes) ≡ length (lines_from (other ++ b ∷ []) bytes)
        → length (cond ends ((before ++ b ∷ []) ∷ lines_from [] bytes) (lines_from (before ++ b ∷ []) bytes)) ≡ length (cond ends ((other ++ b ∷ []) ∷ lines_from [] bytes) (lines_from (other ++ b ∷ []) bytes))
    by true ih = refl
    by false ih = ih

pub line-ends : (bytes : List ℕ) (i : ℕ) → i < length bytes → get_or bytes i 0 ≡ 10 → length (lines_in (drop i bytes)) ≡ 1 + length (lines_in (drop (i + 1) bytes))
line-ends bytes i lt e = ap (λ xs. length (lines_in xs)) (drop-at bytes i lt) ∙ by (get_or bytes i 0) (drop (i + 1) bytes) (get_or bytes i 0 == 10) (eq-eqb (get_or bytes i 0) 10 e)
  where
    by : (b : ℕ) (rest : List ℕ) (ends : Bool) → ends ≡ true → length (cond ends ((b ∷ []) ∷ lines_from [] rest) (lines_from (b ∷ []) rest)) ≡ 1 + length (lines_from [] rest)
    by b rest true h = omega arith
    by b rest false h = absurd (cc)

pub line-goes-on : (bytes : List ℕ) (i : ℕ) → i < length bytes → get_or bytes i 0 ≢ 10 → length (lines_in (drop i bytes)) ≡ length (lines_in (drop (i + 1) bytes))
line-goes-on bytes i lt e = ap (λ xs. length (lines_in xs)) (drop-at bytes i lt) ∙ by (get_or bytes i 0) (drop (i + 1) bytes) (get_or bytes i 0 == 10) (λ h. e (eqb-true (get_or bytes i 0) 10 h))
  where
    by : (b : ℕ) (rest : List ℕ) (ends : Bool) → (ends ≡ true → ⊥) → length (cond ends ((b ∷ []) ∷ lines_from [] rest) (lines_from (b ∷ []) rest)) ≡ length (lines_from [] rest)
    by b rest true h = absurd (h refl)
    by b rest false h = lines-after (b ∷ []) [] rest
