-- A text that is cut, and its parts.
use Rattle.std.proofs.Common.{ℕ, suc, ◌≡◌, ◌≢◌, ◌<◌, ◌+◌, ◌==◌, length, sym, ◌∙◌, subst, arith, Bool, true, false, cond, List, [], ◌∷◌, Option, Some, None, refl, ap}
use Rattle.chorus_lines.specs.Text.{cut, in_front, lines}
use Rattle.chorus_claims.specs.Words.{parts, parts_behind, text_left, words, words_behind}

-- what a text is cut into whose first byte is a mark, or not
abbrev cut_on : ℕ → List ℕ → Bool → List ℕ × Option (List ℕ) → List ℕ × Option (List ℕ)
cut_on c cs b rest = cond b ([], Some cs) (c ∷ rest.0, rest.1)

step : (mark c : ℕ) (cs : List ℕ) (b : Bool) (rest : List ℕ × Option (List ℕ)) → parts mark cs ≡ rest.0 ∷ parts_behind mark rest.1 →
    cond b ([] ∷ parts mark cs) (in_front c (parts mark cs)) ≡ (cut_on c cs b rest).0 ∷ parts_behind mark (cut_on c cs b rest).1
step mark c cs true rest e = refl
step mark c cs false rest e = ap (in_front c) e

pub cut_parts : (mark : ℕ) (text : List ℕ) → parts mark text ≡ (cut mark text).0 ∷ parts_behind mark (cut mark text).1
unfolding parts cut
cut_parts mark [] = refl
cut_parts mark (c ∷ cs) = step mark c cs (c == mark) (cut mark cs) (cut_parts mark cs)

pub words_cut : (text piece : List ℕ) (behind : Option (List ℕ)) → (piece, behind) ≡ cut 32 text → words text ≡ piece ∷ words_behind behind
words_cut text piece behind e =
    cut_parts 32 text ∙ sym (ap (λ (p : List ℕ × Option (List ℕ)). p.0 ∷ parts_behind 32 p.1) e)

-- what is left behind a mark is shorter
abbrev shorter_than : ℕ → Option (List ℕ) → Type 0
shorter_than n None = Unit {0}
shorter_than n (Some rest) = length rest < n

longer : (n : ℕ) (rest : Option (List ℕ)) → shorter_than n rest → shorter_than (suc n) rest
longer n None h = tt
longer n (Some rest) h = omega (arith, h)

cut_short : (mark : ℕ) (text : List ℕ) → shorter_than (length text) (cut mark text).1
unfolding cut
cut_short mark [] = tt
cut_short mark (c ∷ cs) = by (c == mark) (cut mark cs) (cut_short mark cs)
  where
    by : (b : Bool) (rest : List ℕ × Option (List ℕ)) → shorter_than (length cs) rest.1 → shorter_than (length (c ∷ cs)) (cut_on c cs b rest).1
    by true rest h = omega arith
    by false rest h = longer (length cs) rest.1 h

pub shorter : (mark : ℕ) (text piece rest : List ℕ) → (piece, Some rest) ≡ cut mark text → length rest < length text
shorter mark text piece rest e =
    subst (λ (p : List ℕ × Option (List ℕ)). shorter_than (length text) p.1) (sym e) (cut_short mark text)

less_by : (n : ℕ) (rest : Option (List ℕ)) → shorter_than n rest → text_left rest < n + 1
less_by n None h = omega arith
less_by n (Some rest) h = omega (arith, h)

pub less_left : (text piece : List ℕ) (rest : Option (List ℕ)) → (piece, rest) ≡ cut 32 text → text_left rest < length text + 1
less_left text piece rest e =
    less_by (length text) rest (subst (λ (p : List ℕ × Option (List ℕ)). shorter_than (length text) p.1) (sym e) (cut_short 32 text))

-- the first line of a text, and those behind it
abbrev lines_behind : Option (List ℕ) → List (List ℕ)
lines_behind None = []
lines_behind (Some rest) = lines rest

lines_by : (c : ℕ) (cs : List ℕ) → lines (c ∷ cs) ≡ (cut 10 (c ∷ cs)).0 ∷ lines_behind (cut 10 (c ∷ cs)).1
unfolding lines cut
lines_by c [] = by (c == 10)
  where
    by : (b : Bool) → cond b ([] ∷ []) ((c ∷ []) ∷ []) ≡ (cut_on c [] b ([], None)).0 ∷ lines_behind (cut_on c [] b ([], None)).1
    by true = refl
    by false = refl
lines_by c (d ∷ ds) = by (c == 10) (lines_by d ds)
  where
    by : (b : Bool) → lines (d ∷ ds) ≡ (cut 10 (d ∷ ds)).0 ∷ lines_behind (cut 10 (d ∷ ds)).1 →
        cond b ([] ∷ lines (d ∷ ds)) (in_front c (lines (d ∷ ds)))
        ≡ (cut_on c (d ∷ ds) b (cut 10 (d ∷ ds))).0 ∷ lines_behind (cut_on c (d ∷ ds) b (cut 10 (d ∷ ds))).1
    by true e = refl
    by false e = ap (in_front c) e

first_line : (text : List ℕ) → text ≢ [] → lines text ≡ (cut 10 text).0 ∷ lines_behind (cut 10 text).1
first_line [] some = absurd (some refl)
first_line (c ∷ cs) some = lines_by c cs

pub line_before : (text line behind : List ℕ) → text ≢ [] → (line, Some behind) ≡ cut 10 text → lines text ≡ line ∷ lines behind
line_before text line behind some e =
    first_line text some ∙ sym (ap (λ (p : List ℕ × Option (List ℕ)). p.0 ∷ lines_behind p.1) e)

pub last_line : (text line : List ℕ) → text ≢ [] → (line, None) ≡ cut 10 text → lines text ≡ line ∷ lines []
unfolding lines
last_line text line some e =
    first_line text some ∙ sym (ap (λ (p : List ℕ × Option (List ℕ)). p.0 ∷ lines_behind p.1) e)
