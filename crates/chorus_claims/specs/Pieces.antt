-- What a claim says of the lines of facts.
-- p is a word of a claim, ws are the words of a line, c says what the letters stand for, k is a claim.
use Rattle.std.specs.Prelude.{◌≡◌, ℕ, ◌==◌, Bool, true, false, not, if◌then◌else◌, List, [], ◌∷◌, Option, Some, None, Contains}
use Rattle.std.specs.List.{All, flat_map, list_all}
use Rattle.std.specs.Str.{bytes_eq}
use Rattle.chorus_claims.specs.Words.{words_in}

-- a word itself, any one word, any number of words, or what a letter stands for, which is named by its byte
pub data Piece : Type 0 where
  Word : (word : List ℕ) → Piece
  Any : Piece
  Rest : Piece
  Letter : (letter : ℕ) → Piece

-- where all facts on the left are so, one on the right is: at each moment, or else at the end
pub record Claim : Type 0 where
  pub throughout : Bool
  pub possible : Bool
  pub left : List (List Piece)
  pub right : List (List Piece)

-- What letters stand for, so far.

pub record Choice : Type 0 where
  pub letter : ℕ
  pub word : List ℕ

abbrev pub chosen : ℕ → List Choice → Option (List ℕ)
chosen k [] = None
chosen k (c ∷ cs) = if c.letter == k then Some c.word else chosen k cs

abbrev pub with_word : ℕ → List ℕ → Option (List ℕ) → List Choice → List (List Choice)
with_word k word None c = (record { letter = k; word = word } ∷ c) ∷ []
with_word k word (Some same) c = if bytes_eq word same then c ∷ [] else []

-- what is left of a list behind each of its fronts
abbrev pub tails : List (List ℕ) → List (List (List ℕ))
tails [] = [] ∷ []
tails (w ∷ ws) = (w ∷ ws) ∷ tails ws

-- the ways in which the words fit
abbrev pub fits : List Piece → List (List ℕ) → List Choice → List (List Choice)
fits [] [] c = c ∷ []
fits [] (w ∷ ws) c = []
fits (Word v ∷ ps) [] c = []
fits (Word v ∷ ps) (w ∷ ws) c = if bytes_eq v w then fits ps ws c else []
fits (Any ∷ ps) [] c = []
fits (Any ∷ ps) (w ∷ ws) c = fits ps ws c
fits (Letter k ∷ ps) [] c = []
fits (Letter k ∷ ps) (w ∷ ws) c = flat_map (λ (more : List Choice). fits ps ws more) (with_word k w (chosen k c) c)
fits (Rest ∷ ps) ws c = flat_map (λ (rest : List (List ℕ)). fits ps rest c) (tails ws)

-- the ways in which all facts are so
abbrev pub choices : List (List Piece) → List (List (List ℕ)) → List (List Choice) → List (List Choice)
choices [] lines so_far = so_far
choices (fact ∷ facts) lines so_far =
    choices facts lines (flat_map (λ (c : List Choice). flat_map (λ (line : List (List ℕ)). fits fact line c) lines) so_far)

abbrev pub is_none : List (List Choice) → Bool
is_none [] = true
is_none (c ∷ cs) = false

-- a line fits the fact
abbrev pub is_so : List (List (List ℕ)) → List Choice → List Piece → Bool
is_so lines c fact = not (is_none (flat_map (λ (line : List (List ℕ)). fits fact line c) lines))

abbrev pub is_one_so : List (List (List ℕ)) → List Choice → List (List Piece) → Bool
is_one_so lines c [] = false
is_one_so lines c (fact ∷ facts) = if is_so lines c fact then true else is_one_so lines c facts

-- for each way in which the left side is so, one fact on the right is
unfoldable pub meets : Claim → List ℕ → Bool
meets k text =
    list_all (λ (c : List Choice). is_one_so (words_in text) c k.right) (choices k.left (words_in text) ([] ∷ []))

-- Two `..` side by side are one: the same words fit, in the same ways.
abbrev pub RestsAreOne : Type 0
RestsAreOne =
    (ps : List Piece) (ws : List (List ℕ)) (c d : List Choice) →
    (Contains (fits (Rest ∷ Rest ∷ ps) ws c) d → Contains (fits (Rest ∷ ps) ws c) d)
    × (Contains (fits (Rest ∷ ps) ws c) d → Contains (fits (Rest ∷ Rest ∷ ps) ws c) d)

-- That the choices are those by which all is so.

-- d says of each letter what c says
abbrev pub Extends : List Choice → List Choice → Type 0
Extends d c = (k : ℕ) (w : List ℕ) → chosen k c ≡ Some w → chosen k d ≡ Some w

-- one of the lines fits the fact, by what the letters stand for
abbrev pub IsSoBy : List (List (List ℕ)) → List Choice → List Piece → Type 0
IsSoBy lines c fact = (line : List (List ℕ)) × (Contains lines line × Contains (fits fact line c) c)

-- by each choice that is listed all facts are so
abbrev pub ChoicesAreWays : Type 0
ChoicesAreWays =
    (facts : List (List Piece)) (lines : List (List (List ℕ))) (c : List Choice) →
    Contains (choices facts lines ([] ∷ [])) c → All (IsSoBy lines c) facts

-- and whatever letters stand for by which all are so, says what one of those says that are listed
abbrev pub AllWaysAreChosen : Type 0
AllWaysAreChosen =
    (facts : List (List Piece)) (lines : List (List (List ℕ))) (e : List Choice) → All (IsSoBy lines e) facts →
    (d : List Choice) × (Contains (choices facts lines ([] ∷ [])) d × Extends e d)
