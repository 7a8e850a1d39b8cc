-- The condition that is found is the first that fails.
use Rattle.std.proofs.Common.{ℕ, ◌+◌, ◌≡◌, Bool, true, false, ◌&&◌, cond, List, [], ◌∷◌, ◌++◌, length, Some, unwrap_or, refl, sym, ◌∙◌, ap, subst, arith}
use Rattle.std.proofs.lemmas.Bool.{true≢false}
use Rattle.judge_rules.specs.declared.failing.Failed.{Failed}
use Rattle.judge_rules.specs.Conditions.{Condition, all_hold, failing_among, first_failing}
use Rattle.judge_rules.specs.Laws.{FirstThatFailsIsFound, IsFirstFailing}

last : (b : Bool) → (b && true) ≡ false → b ≡ false
last true h = absurd (true≢false h)
last false h = refl

found : Condition → ℕ → Failed
found c n = record { number = n; about = c.about }

first-of : (n : ℕ) (c : Condition) (cs : List Condition) → c.holds ≡ false → IsFirstFailing n (c ∷ cs) (record { number = n; about = c.about })
first-of n c cs fails = record {
  before = [];
  failing = c;
  behind = cs;
  are = refl;
  hold = refl;
  fails = fails;
  number = omega arith;
  about = refl;
}

later : (n : ℕ) (c : Condition) (cs : List Condition) (f : Failed) → c.holds ≡ true → IsFirstFailing (n + 1) cs f → IsFirstFailing n (c ∷ cs) f
later n c cs f holds h = record {
  before = c ∷ h.before;
  failing = h.failing;
  behind = h.behind;
  are = ap (λ xs. c ∷ xs) h.are;
  hold = (λ i. holds i && h.hold i);
  fails = h.fails;
  number = let k = h.number in omega (arith, k);
  about = h.about;
}

module _ (n : ℕ) (c d : Condition) (cs : List Condition) where
  step : (b : Bool) → c.holds ≡ b → (all_hold (d ∷ cs) ≡ false → IsFirstFailing (n + 1) (d ∷ cs) (first_failing (n + 1) (d ∷ cs))) → (b && all_hold (d ∷ cs)) ≡ false → IsFirstFailing n (c ∷ d ∷ cs) (cond b (first_failing (n + 1) (d ∷ cs)) (record { number = n; about = c.about }))
  step true holds rest h = later n c (d ∷ cs) (first_failing (n + 1) (d ∷ cs)) holds (rest h)
  step false holds rest h = first-of n c (d ∷ cs) holds

pub first_found : FirstThatFailsIsFound
first_found n [] h = absurd (true≢false h)
first_found n (c ∷ []) h = first-of n c [] (last c.holds h)
first_found n (c ∷ d ∷ cs) h =
    subst (λ b. IsFirstFailing n (c ∷ d ∷ cs) (cond b (first_failing (n + 1) (d ∷ cs)) (record { number = n; about = c.about }))) refl
    (step n c d cs c.holds refl (first_found (n + 1) (d ∷ cs)) h)

pub with_first : (n : ℕ) (c : Condition) (cs : List Condition) (f : Failed) → c.holds ≡ true → IsFirstFailing (n + 1) cs f → IsFirstFailing n (c ∷ cs) f
with_first n c cs f holds h = later n c cs f holds h

pub at_first : (n : ℕ) (c : Condition) (cs : List Condition) → c.holds ≡ false → IsFirstFailing n (c ∷ cs) (record { number = n; about = c.about })
at_first n c cs fails = first-of n c cs fails

-- some conditions and others behind them
from_case : (n : ℕ) (c : Condition) (xs : List Condition) (b : Bool) (rest : Failed) → cond b (unwrap_or (failing_among (n + 1) xs) rest) (record { number = n; about = c.about }) ≡ unwrap_or (cond b (failing_among (n + 1) xs) (Some (record { number = n; about = c.about }))) rest
from_case n c xs true rest = refl
from_case n c xs false rest = refl

pub among_first : (n : ℕ) (xs : List Condition) (d : Condition) (ys : List Condition) → first_failing n (xs ++ d ∷ ys) ≡ unwrap_or (failing_among n xs) (first_failing (n + length xs) (d ∷ ys))
among_first n [] d ys = ap (λ m. first_failing m (d ∷ ys)) (let e : n ≡ n + 0 = omega arith in e)
among_first n (c ∷ []) d ys = from_case n c [] c.holds (first_failing (n + 1) (d ∷ ys))
among_first n (c ∷ x ∷ xs) d ys =
    ap (λ f. cond c.holds f (record { number = n; about = c.about })) (among_first (n + 1) (x ∷ xs) d ys)
    ∙ from_case n c (x ∷ xs) c.holds (first_failing (n + 1 + length (x ∷ xs)) (d ∷ ys))
    ∙ ap (λ m. unwrap_or (failing_among n (c ∷ x ∷ xs)) (first_failing m (d ∷ ys))) (let e : n + 1 + length (x ∷ xs) ≡ n + length (c ∷ x ∷ xs) = omega arith in e)

pub among_some : (n : ℕ) (xs : List Condition) (d : Condition) (ys : List Condition) (f : Failed) → Some f ≡ failing_among n xs → f ≡ first_failing n (xs ++ d ∷ ys)
among_some n xs d ys f h = sym (among_first n xs d ys ∙ ap (λ o. unwrap_or o (first_failing (n + length xs) (d ∷ ys))) (sym h))
