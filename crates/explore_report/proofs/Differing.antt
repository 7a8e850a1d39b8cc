-- The lines that are in each outcome and the others of one are its lines.
-- all are the lines of each outcome, always those that are in each.
use Rattle.std.proofs.Common.{ℕ, zero, suc, ◌≡◌, ◌+◌, ◌==◌, ◌⊎◌, inl, inr, Bool, true, false, ◌||◌, not, cond, List, [], ◌∷◌, length, refl, sym, ap, subst, arith}
use Rattle.std.specs.List.{All, Contains, count_by, filter}
use Rattle.std.proofs.lemmas.Bool.{false≢true, eqb-true, eq-eqb}
use Rattle.std.proofs.lemmas.List.Elements.{All-nil, All-cons, All-head, All-tail, All-weaker, All-contains, All-contains_itself, All-filter, filter_passes}
use Rattle.std.proofs.lemmas.List.Sums.{sum_by-cons, count_by-le-length}
use Rattle.explore_report.specs.Lines.{always_lines, has_line, others_of, outcomes_with, same_bytes, texts_lines}
use Rattle.explore_report.specs.Differences.{AreWhole, DifferencesTellOutcomes, TellByDifference}
use Rattle.explore_report.proofs.Reporting.{same-eq, same-self}
use Rattle.explore_report.proofs.Singles.{or-left, or-right}

-- A line of a list.

one-more : {X : Type 0} (x y : X) (xs : List X) → Contains xs y → Contains (x ∷ xs) y
one-more x y xs has = (suc has.0, (let lt = has.1 in omega (arith, lt)), has.2)

has-in : (line : List ℕ) (lines : List (List ℕ)) → has_line line lines ≡ true → Contains lines line
has-in line [] h = absurd (false≢true h)
has-in line (other ∷ lines) h = by (same_bytes other line) refl h (has-in line lines)
  where
    by : (b : Bool) → same_bytes other line ≡ b → (b || has_line line lines) ≡ true → (has_line line lines ≡ true → Contains lines line) → Contains (other ∷ lines) line
    by true e k ih = (zero, omega arith, same-eq other line e)
    by false e k ih = one-more other line lines (ih k)

in-has : (line : List ℕ) (lines : List (List ℕ)) → Contains lines line → has_line line lines ≡ true
in-has line [] has = absurd (let lt = has.1 in omega (arith, lt))
in-has line (other ∷ lines) (zero, lt, e) =
    or-left (same_bytes other line) (has_line line lines) (subst (λ (l : List ℕ). same_bytes other l ≡ true) e (same-self other))
in-has line (other ∷ lines) (suc k, lt, e) =
    or-right (same_bytes other line) (has_line line lines) (in-has line lines (k, omega (arith, lt), e))

-- What passes a test.

passes-in : {X : Type 0} (p : X → Bool) (xs : List X) (x : X) → Contains xs x → p x ≡ true → Contains (filter p xs) x
passes-in p [] x has h = absurd (let lt = has.1 in omega (arith, lt))
passes-in p (y ∷ ys) x (zero, lt, e) h =
    let k : p y ≡ true = subst (λ z. p z ≡ true) (sym e) h in
    subst (λ (b : Bool). Contains (cond b (y ∷ filter p ys) (filter p ys)) x) (sym k) (zero, omega arith, e)
passes-in p (y ∷ ys) x (suc i, lt, e) h = by (p y) (passes-in p ys x (i, omega (arith, lt), e) h)
  where
    by : (b : Bool) → Contains (filter p ys) x → Contains (cond b (y ∷ filter p ys) (filter p ys)) x
    by true deeper = one-more y x (filter p ys) deeper
    by false deeper = deeper

count-all : {X : Type 0} (p : X → Bool) (xs : List X) → count_by p xs ≡ length xs → All (λ x. p x ≡ true) xs
count-all p [] h = All-nil (λ x. p x ≡ true)
count-all p (x ∷ xs) h = by (p x) refl (sum_by-cons (λ y. cond (p y) 1 0) x xs) (count-all p xs)
  where
    by : (b : Bool) → p x ≡ b → count_by p (x ∷ xs) ≡ cond b 1 0 + count_by p xs → (count_by p xs ≡ length xs → All (λ y. p y ≡ true) xs) → All (λ y. p y ≡ true) (x ∷ xs)
    by true e n ih = All-cons (λ y. p y ≡ true) x xs e (ih (omega (arith, h, n)))
    by false e n ih = absurd (let le = count_by-le-length p xs in omega (arith, h, n, le))

all-count : {X : Type 0} (p : X → Bool) (xs : List X) → All (λ x. p x ≡ true) xs → count_by p xs ≡ length xs
all-count p [] h = refl
all-count p (x ∷ xs) h =
    by (p x) (All-head (λ y. p y ≡ true) x xs h) (sum_by-cons (λ y. cond (p y) 1 0) x xs) (all-count p xs (All-tail (λ y. p y ≡ true) x xs h))
  where
    by : (b : Bool) → b ≡ true → count_by p (x ∷ xs) ≡ cond b 1 0 + count_by p xs → count_by p xs ≡ length xs → count_by p (x ∷ xs) ≡ length (x ∷ xs)
    by true e n rest = omega (arith, n, rest)
    by false e n rest = absurd (false≢true e)

-- What is in each.

abbrev Has : List ℕ → List (List ℕ) → Type 0
Has line lines = Contains lines line

counts-each : (line : List ℕ) (all : List (List (List ℕ))) → outcomes_with line all ≡ length all → All (Has line) all
counts-each line all h =
    All-weaker (λ (ls : List (List ℕ)). has_line line ls ≡ true) (Has line) (λ ls k. has-in line ls k) all
    (count-all (λ (ls : List (List ℕ)). has_line line ls) all h)

each-counts : (line : List ℕ) (all : List (List (List ℕ))) → All (Has line) all → outcomes_with line all ≡ length all
each-counts line all h =
    all-count (λ (ls : List (List ℕ)). has_line line ls) all
    (All-weaker (Has line) (λ (ls : List (List ℕ)). has_line line ls ≡ true) (λ ls k. in-has line ls k) all h)

abbrev is_in_all : List (List (List ℕ)) → List ℕ → Bool
is_in_all all line = outcomes_with line all == length all

always-each : (first : List (List ℕ)) (rest : List (List (List ℕ))) → All (λ (line : List ℕ). All (Has line) (first ∷ rest)) (always_lines (first ∷ rest))
always-each first rest =
    All-weaker (λ (line : List ℕ). is_in_all (first ∷ rest) line ≡ true) (λ (line : List ℕ). All (Has line) (first ∷ rest))
    (λ line k. counts-each line (first ∷ rest) (eqb-true (outcomes_with line (first ∷ rest)) (length (first ∷ rest)) k))
    (always_lines (first ∷ rest)) (filter_passes (is_in_all (first ∷ rest)) first)

is-whole : (always lines : List (List ℕ)) → All (Contains lines) always → AreWhole always lines
is-whole always lines h =
    record {
      in_each = h;
      others = All-filter other (Contains lines) lines (All-contains_itself lines);
      none_missing = All-weaker (Contains lines) (λ (line : List ℕ). Contains always line ⊎ Contains (others_of always lines) line) either lines (All-contains_itself lines);
    }
  where
    other : List ℕ → Bool
    other line = not (has_line line always)

    either : (line : List ℕ) → Contains lines line → Contains always line ⊎ Contains (others_of always lines) line
    either line has = by (has_line line always) refl
      where
        by : (b : Bool) → has_line line always ≡ b → Contains always line ⊎ Contains (others_of always lines) line
        by true e = inl (has-in line always e)
        by false e = inr (passes-in (λ (l : List ℕ). not (has_line l always)) lines line has (ap not e))

by-difference : (all : List (List (List ℕ))) → TellByDifference all
by-difference [] = record { outcomes = All-nil (AreWhole []); always = λ line some each. absurd (some refl) }
by-difference (first ∷ rest) =
    record {
      outcomes = All-weaker (Contains all) (AreWhole always) (λ lines has. is-whole always lines (of_each lines has)) all (All-contains_itself all);
      always = λ line some each.
          passes-in (is_in_all all) first line (All-head (Has line) first rest each) (eq-eqb (outcomes_with line all) (length all) (each-counts line all each));
    }
  where
    all : List (List (List ℕ))
    all = first ∷ rest

    always : List (List ℕ)
    always = always_lines (first ∷ rest)

    of_each : (lines : List (List ℕ)) → Contains all lines → All (Contains lines) always
    of_each lines has = All-weaker (λ (line : List ℕ). All (Has line) all) (Contains lines) (λ line each. All-contains (Has line) all lines each has) always (always-each first rest)

pub differences-tell : DifferencesTellOutcomes
differences-tell fs = by-difference (texts_lines fs)
