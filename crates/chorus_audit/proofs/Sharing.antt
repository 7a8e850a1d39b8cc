-- How many lines a text shares with another that is known in part.
use Rattle.std.proofs.Common.{◌≡◌, ◌≢◌, ℕ, ◌+◌, ◌==◌, Bool, true, false, not, if◌then◌else◌, List, [], ◌∷◌, ◌++◌, refl, sym, ap, ◌∙◌, arith}
use Rattle.std.proofs.lemmas.Bool.{and_parts, eq-eqb, eqb-true}
use Rattle.chorus_show.specs.Reading.{lacks}
use Rattle.chorus_audit.specs.Tests.{lines_shared}

is_not : (b : Bool) → not b ≡ true → b ≡ false
is_not true h = sym h
is_not false h = refl

-- what a byte adds, where it is the same in both, or is LF
abbrev by_bytes : Bool → Bool → ℕ → ℕ
by_bytes same ends n = if same then (if ends then 1 + n else n) else 0

-- with a text that begins with the line: none, or that line first
pub data Shares (row x y : List ℕ) : Type 0 where
  Nothing : lines_shared x (row ++ 10 ∷ y) ≡ 0 → Shares row x y
  Line : (z : List ℕ) → x ≡ row ++ 10 ∷ z → lines_shared x (row ++ 10 ∷ y) ≡ 1 + lines_shared z y → Shares row x y

at_end : (c : ℕ) (x y : List ℕ) (t : Bool) → (c == 10) ≡ t → Shares [] (c ∷ x) y
at_end c x y true e = Line x (λ i. eqb-true c 10 e i ∷ x) (λ i. by_bytes (e i) (e i) (lines_shared x y))
at_end c x y false e = Nothing (λ i. by_bytes (e i) (e i) (lines_shared x y))

within : (c d : ℕ) (row x y : List ℕ) → (c == d) ≡ true → not (d == 10) ≡ true → Shares row x y → Shares (d ∷ row) (c ∷ x) y
within c d row x y e h s = go s
  where
    no_end : (c == 10) ≡ false
    no_end = ap (λ b. b == 10) (eqb-true c d e) ∙ is_not (d == 10) h

    is : lines_shared (c ∷ x) ((d ∷ row) ++ 10 ∷ y) ≡ lines_shared x (row ++ 10 ∷ y)
    is = λ i. by_bytes (e i) (no_end i) (lines_shared x (row ++ 10 ∷ y))

    go : Shares row x y → Shares (d ∷ row) (c ∷ x) y
    go (Nothing n) = Nothing (is ∙ n)
    go (Line z p n) = Line z (λ i. eqb-true c d e i ∷ p i) (is ∙ n)

pub shares_line : (row x y : List ℕ) → lacks 10 row ≡ true → Shares row x y
shares_line row [] y h = Nothing refl
shares_line [] (c ∷ x) y h = at_end c x y (c == 10) refl
shares_line (d ∷ row) (c ∷ x) y h = by (c == d) refl (shares_line row x y)
  where
    by : (t : Bool) → (c == d) ≡ t → (lacks 10 row ≡ true → Shares row x y) → Shares (d ∷ row) (c ∷ x) y
    by true e ih = let both = and_parts (not (d == 10)) (lacks 10 row) h in within c d row x y e both.0 (ih both.1)
    by false e ih = Nothing (λ i. by_bytes (e i) (c == 10) (lines_shared x (row ++ 10 ∷ y)))

-- both texts begin with the line
same_line : (row x y : List ℕ) → lacks 10 row ≡ true → lines_shared (row ++ 10 ∷ x) (row ++ 10 ∷ y) ≡ 1 + lines_shared x y
same_line [] x y h = refl
same_line (c ∷ row) x y h =
    let both = and_parts (not (c == 10)) (lacks 10 row) h in
    (λ i. by_bytes (eq-eqb c c refl i) (is_not (c == 10) both.0 i) (lines_shared (row ++ 10 ∷ x) (row ++ 10 ∷ y))) ∙ same_line row x y both.1

pub line_first : (row text other x y : List ℕ) → lacks 10 row ≡ true → text ≡ row ++ 10 ∷ x → other ≡ row ++ 10 ∷ y → lines_shared text other ≡ 1 + lines_shared x y
line_first row text other x y h p q = (λ i. lines_shared (p i) (q i)) ∙ same_line row x y h

-- both begin with the same, of any lines
added : (t : Bool) (m n : ℕ) → by_bytes true t (m + n) ≡ by_bytes true t m + n
added true m n = omega arith
added false m n = refl

with_front : (p x y : List ℕ) → lines_shared (p ++ x) (p ++ y) ≡ lines_shared p p + lines_shared x y
with_front [] x y = omega arith
with_front (c ∷ p) x y =
    (λ i. by_bytes (eq-eqb c c refl i) (c == 10) (with_front p x y i))
    ∙ added (c == 10) (lines_shared p p) (lines_shared x y)
    ∙ sym (λ i. by_bytes (eq-eqb c c refl i) (c == 10) (lines_shared p p) + lines_shared x y)

pub front_first : (p q x y : List ℕ) → p ≡ q → lines_shared (p ++ x) (q ++ y) ≡ lines_shared p p + lines_shared x y
front_first p q x y e = ap (λ r. lines_shared (p ++ x) (r ++ y)) (sym e) ∙ with_front p x y

-- one does not begin as the others do
pub without_front : (p x y z : List ℕ) → ((more : List ℕ) → x ≢ p ++ more) → lines_shared x (p ++ y) ≡ lines_shared x (p ++ z)
without_front [] x y z h = absurd (h x refl)
without_front (c ∷ p) [] y z h = refl
without_front (c ∷ p) (d ∷ x) y z h = by (d == c) refl (without_front p x y z)
  where
    by : (t : Bool) → (d == c) ≡ t → (((more : List ℕ) → x ≢ p ++ more) → lines_shared x (p ++ y) ≡ lines_shared x (p ++ z)) → lines_shared (d ∷ x) ((c ∷ p) ++ y) ≡ lines_shared (d ∷ x) ((c ∷ p) ++ z)
    by true e ih = ap (by_bytes (d == c) (d == 10)) (ih (λ more is. h more (λ i. eqb-true d c e i ∷ is i)))
    by false e ih = (λ i. by_bytes (e i) (d == 10) (lines_shared x (p ++ y))) ∙ sym (λ i. by_bytes (e i) (d == 10) (lines_shared x (p ++ z)))
