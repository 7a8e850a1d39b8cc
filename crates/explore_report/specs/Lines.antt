-- The lines of outcomes, and in how many outcomes a line is.
-- A line is its bytes, each text is those of one outcome; all are the lines of each outcome.
use Rattle.std.specs.Prelude.{ℕ, ◌==◌, if◌then◌else◌, Bool, true, false, ◌||◌, not, List, [], ◌∷◌, ◌++◌, length, map, count_by}
use Rattle.std.specs.List.{filter}
use Rattle.explore_report.specs.declared.findings.Finding.{Finding}
use Rattle.explore_report.specs.declared.lines.Line as line
use Rattle.explore_report.specs.declared.lines.Lines as lines

-- the lines of a text, each with its LF; those bytes stand before the rest
abbrev pub lines_from : List ℕ → List ℕ → List (List ℕ)
lines_from before [] = []
lines_from before (b ∷ bs) = if b == 10 then (before ++ b ∷ []) ∷ lines_from [] bs else lines_from (before ++ b ∷ []) bs

abbrev pub lines_in : List ℕ → List (List ℕ)
lines_in text = lines_from [] text

abbrev pub texts_lines : List Finding → List (List (List ℕ))
texts_lines fs = map (λ (f : Finding). lines_in f.text.items) fs

abbrev pub same_bytes : List ℕ → List ℕ → Bool
same_bytes [] [] = true
same_bytes (a ∷ xs) (b ∷ ys) = if a == b then same_bytes xs ys else false
same_bytes _ _ = false

-- the line is one of these
abbrev pub has_line : List ℕ → List (List ℕ) → Bool
has_line line [] = false
has_line line (other ∷ lines) = same_bytes other line || has_line line lines

abbrev pub outcomes_with : List ℕ → List (List (List ℕ)) → ℕ
outcomes_with line all = count_by (λ (lines : List (List ℕ)). has_line line lines) all

-- those of the first outcome that are in each
abbrev pub always_lines : List (List (List ℕ)) → List (List ℕ)
always_lines [] = []
always_lines (first ∷ all) =
    filter (λ (line : List ℕ). outcomes_with line (first ∷ all) == length (first ∷ all)) first

-- those of an outcome that are not in each
abbrev pub others_of : List (List ℕ) → List (List ℕ) → List (List ℕ)
others_of always lines = filter (λ (line : List ℕ). not (has_line line always)) lines

-- lines as the code has them
abbrev pub line_of : line.Line → List ℕ
line_of l = l.bytes.now

abbrev pub lines_of_one : lines.Lines → List (List ℕ)
lines_of_one l = map line_of l.lines.items

abbrev pub lines_of_all : List lines.Lines → List (List (List ℕ))
lines_of_all all = map lines_of_one all
