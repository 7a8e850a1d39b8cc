-- Whether a claim is met, as it is looked for: word by word, and each way to its end before the next.
-- e says what letters stand for, ps are words of a claim, ws those of a line.
use Rattle.std.specs.Prelude.{ℕ, ◌≤◌, ◌-◌, Bool, true, false, not, ◌||◌, if◌then◌else◌, List, [], ◌∷◌, map, Option, Some, None, slice_index_or, slice_set}
use Rattle.std.specs.List.{list_all}
use Rattle.std.specs.Option.{option_copied}
use Rattle.std.specs.Str.{bytes_eq}
use Rattle.chorus_claims.specs.Words.{is_rest, not_empty, words_behind, words_in}
use Rattle.chorus_claims.specs.Pieces.{Piece, Word, Any, Rest, Letter, tails}
use Rattle.chorus_claims.specs.Shapes.{facts_in}
use Rattle.chorus_claims.specs.declared.letters.Letters.{Letters}
use Rattle.chorus_claims.specs.declared.letters.Step.{Step}
use Rattle.chorus_claims.specs.declared.letters.Step.TheVariants as steps
use Rattle.chorus_claims.specs.declared.matching.Asked.{Asked}
use Rattle.chorus_claims.specs.declared.matching.Right.{Right}
use Rattle.chorus_claims.specs.declared.matching.Right.TheVariants.{Nothing, Facts}
use Rattle.chorus_claims.specs.declared.matching.Ending.{Ending}
use Rattle.chorus_claims.specs.declared.matching.Ending.TheVariants.{Goes, Found}

-- What each letter stands for, from A (65) on.
abbrev pub meanings_of : Letters → List (Option (List ℕ))
meanings_of letters = map option_copied letters.words

abbrev pub meaning : ℕ → List (Option (List ℕ)) → Option (List ℕ)
meaning k e = slice_index_or e (k - 65) None

abbrev pub with_meaning : ℕ → List ℕ → List (Option (List ℕ)) → List (Option (List ℕ))
with_meaning k w e = slice_set e (k - 65) (Some w)

-- One word of a claim at one of a line: it fits, it does not, or a letter stands for it from now on.

abbrev pub letter_step : ℕ → List ℕ → Option (List ℕ) → Step
letter_step k w None = steps.Stands k
letter_step k w (Some same) = if bytes_eq w same then steps.Fits else steps.Misses

abbrev pub step_of : Piece → List ℕ → List (Option (List ℕ)) → Step
step_of (Word v) w e = if bytes_eq v w then steps.Fits else steps.Misses
step_of Any w e = steps.Fits
step_of Rest w e = steps.Fits
step_of (Letter k) w e = letter_step k w (meaning k e)

-- a letter is one of A to Z (90)
abbrev pub IsLetter : Step → Type 0
IsLetter steps.Fits = Unit {0}
IsLetter steps.Misses = Unit {0}
IsLetter (steps.Stands k) = (65 ≤ k) × (k ≤ 90)

-- what is so of the words behind, where the word fits, or where the letter k stands for it
abbrev pub behind_step : Step → Bool → (ℕ → Bool) → Bool
behind_step steps.Fits fits stands = fits
behind_step steps.Misses fits stands = true
behind_step (steps.Stands k) fits stands = stands k

-- for each way in which the words fit, the rest is so
abbrev pub way : (List (Option (List ℕ)) → Bool) → List Piece → List (List ℕ) → List (Option (List ℕ)) → Bool
way rest [] ws e = not_empty ws || rest e
way rest (Rest ∷ ps) ws e = list_all (λ (tail : List (List ℕ)). way rest ps tail e) (tails ws)
way rest (Word v ∷ ps) [] e = true
way rest (Word v ∷ ps) (w ∷ ws) e =
    behind_step (step_of (Word v) w e) (way rest ps ws e) (λ k. way rest ps ws (with_meaning k w e))
way rest (Any ∷ ps) [] e = true
way rest (Any ∷ ps) (w ∷ ws) e = way rest ps ws e
way rest (Letter l ∷ ps) [] e = true
way rest (Letter l ∷ ps) (w ∷ ws) e =
    behind_step (step_of (Letter l) w e) (way rest ps ws e) (λ k. way rest ps ws (with_meaning k w e))

-- one of the facts is so: there is a way in which the words of a line fit
abbrev pub one_right : List (List (List ℕ)) → List (Option (List ℕ)) → List (List Piece) → Bool
one_right lines e [] = false
one_right lines e (f ∷ fs) =
    not (list_all (λ (line : List (List ℕ)). way (λ all. false) f line e) lines) || one_right lines e fs

-- for each way in which the facts on the left are so, one on the right is
abbrev pub all_left : List (List (List ℕ)) → List (List Piece) → List (List Piece) → List (Option (List ℕ)) → Bool
all_left lines right [] e = one_right lines e right
all_left lines right (f ∷ fs) e =
    list_all (λ (line : List (List ℕ)). way (all_left lines right fs) f line e) lines

-- The same, of the words of a claim from a word on.

abbrev pub first_fact : List (List Piece) → List Piece
first_fact [] = []
first_fact (f ∷ fs) = f

abbrev pub later_facts : List (List Piece) → List (List Piece)
later_facts [] = []
later_facts (f ∷ fs) = fs

-- a fact on the left goes on to the next; a way in which one on the right fits is enough
abbrev pub goes_on : Ending → List (List (List ℕ)) → List (List Piece) → List (List Piece) → List (Option (List ℕ)) → Bool
goes_on Goes lines right facts e = all_left lines right facts e
goes_on Found lines right facts e = false

abbrev pub right_of : Right → List (List Piece)
right_of Nothing = []
right_of (Facts text) = facts_in (words_behind (option_copied text))

-- what stands behind the `..` that stand here
abbrev pub behind_rests : List (List ℕ) → List (List ℕ)
behind_rests [] = []
behind_rests (p ∷ ps) = if is_rest p then behind_rests ps else p ∷ ps

abbrev pub way_from : Asked → Ending → List (List ℕ) → List (List ℕ) → List (Option (List ℕ)) → Bool
way_from asked ending ps ws e =
    way (goes_on ending (words_in asked.lines.now) (right_of asked.right) (later_facts (facts_in ps)))
    (first_fact (facts_in ps)) ws e

abbrev pub each_line : Asked → Ending → List (List ℕ) → List (Option (List ℕ)) → Bool
each_line asked ending ps e =
    list_all (λ (line : List (List ℕ)). way_from asked ending ps line e) (words_in asked.lines.now)

abbrev pub each_tail : Asked → Ending → List (List ℕ) → List (List ℕ) → List (Option (List ℕ)) → Bool
each_tail asked ending ps ws e =
    list_all (λ (tail : List (List ℕ)). way_from asked ending ps tail e) (tails ws)
