-- The grammar of claims: what a text claims, and why it is refused.
-- ws are words, w is one, sites is the number of sites, commands how many commands each script has, script 1 first.
use Rattle.std.specs.Prelude.{◌≡◌, ℕ, ◌-◌, nat_lt, if◌then◌else◌, Bool, true, false, not, ◌&&◌, ◌||◌, List, [], ◌∷◌, Option, Some, None, codes}
use Rattle.std.specs.Str.{bytes_eq}
use Rattle.chorus_lines.specs.declared.word.Reason.{Reason}
use Rattle.chorus_lines.specs.declared.word.Reason.TheVariants.{Word, Number, Unknown, Limit}
use Rattle.chorus_claims.specs.Words.{words, is_throughout, asked_text, long_form, is_and, is_or, is_arrow, is_before, is_middle, is_mark, is_any, is_rest, letter_in}
use Rattle.chorus_claims.specs.Pieces.{Piece, Claim}
use Rattle.chorus_claims.specs.Pieces as pieces
use Rattle.chorus_claims.specs.Places.{may_end, place_behind, is_word, is_spelled, is_within, is_known}
use Rattle.chorus_claims.specs.declared.place.Place.{Place}
use Rattle.chorus_claims.specs.declared.place.Place.TheVariants.{Start}
use Rattle.chorus_claims.specs.declared.form.Form.{Form}
use Rattle.chorus_claims.specs.declared.form.Form.TheVariants.{Never, Possible, Always, Implies, Before}
use Rattle.chorus_claims.specs.declared.form.Side.{Side}
use Rattle.chorus_claims.specs.declared.form.Side.TheVariants.{Ands, Left, Ors, First, Alone}

-- The form of a claim is told by its first word; where that is a fact's, by the mark between its sides: it is
-- FACT & FACT .. => FACT | FACT .., or FACT before FACT.

unfoldable pub form_of : List ℕ → Form
form_of w =
    if bytes_eq w (codes "never") then Never
    else if bytes_eq w (codes "possible") then Possible
    else if bytes_eq w (codes "always") then Always
    else Implies

abbrev pub form_by_mark : List (List ℕ) → Form
form_by_mark [] = Implies
form_by_mark (w ∷ ws) = if is_before w then Before else if is_arrow w then Implies else form_by_mark ws

abbrev pub form_or : Form → List (List ℕ) → Form
form_or Implies ws = form_by_mark ws
form_or form ws = form

abbrev pub form_in : List (List ℕ) → Form
form_in [] = Implies
form_in (w ∷ ws) = form_or (form_of w) (w ∷ ws)

abbrev pub behind_form : Form → List ℕ → List (List ℕ) → List (List ℕ)
behind_form Implies w ws = w ∷ ws
behind_form _ w ws = ws

-- the words of the facts and the marks between them
abbrev pub facts_of : List (List ℕ) → List (List ℕ)
facts_of [] = []
facts_of (w ∷ ws) = behind_form (form_of w) w ws

-- What a text claims. Of a text that is no claim this may be anything.

abbrev pub piece_or_word : List ℕ → Option ℕ → Piece
piece_or_word w None = pieces.Word w
piece_or_word w (Some letter) = pieces.Letter letter

abbrev pub piece_of : List ℕ → Piece
piece_of w = if is_any w then pieces.Any else if is_rest w then pieces.Rest else piece_or_word w (letter_in w)

-- a word more in front of the first fact
abbrev pub in_fact : Piece → List (List Piece) → List (List Piece)
in_fact p [] = (p ∷ []) ∷ []
in_fact p (fact ∷ facts) = (p ∷ fact) ∷ facts

-- the facts of one side, which are parted by marks, as far as the mark between both
abbrev pub facts_in : List (List ℕ) → List (List Piece)
facts_in [] = [] ∷ []
facts_in (w ∷ ws) =
    if is_middle w then [] ∷ [] else if is_mark w then [] ∷ facts_in ws else in_fact (piece_of w) (facts_in ws)

-- what stands behind that
abbrev pub behind_middle : List (List ℕ) → List (List ℕ)
behind_middle [] = []
behind_middle (w ∷ ws) = if is_middle w then ws else behind_middle ws

-- possible FACTS is never FACTS, of which the words turn; FIRST before SECOND is throughout SECOND => FIRST
abbrev pub claim_in : Form → List (List ℕ) → Claim
claim_in Never ws = record { throughout = false; possible = false; left = facts_in ws; right = [] }
claim_in Possible ws = record { throughout = false; possible = true; left = facts_in ws; right = [] }
claim_in Always ws = record { throughout = false; possible = false; left = []; right = facts_in ws }
claim_in Implies ws = record {
  throughout = false;
  possible = false;
  left = facts_in ws;
  right = facts_in (behind_middle ws);
}
claim_in Before ws = record {
  throughout = true;
  possible = false;
  left = facts_in (behind_middle ws);
  right = facts_in ws;
}

abbrev pub claim_of_words : List (List ℕ) → Claim
claim_of_words ws = claim_in (form_in ws) (facts_of ws)

-- the claim, asked at each moment where `throughout` stands in front of it
abbrev pub asked_by : Bool → Claim → Claim
asked_by throughout k = record k { throughout = throughout || k.throughout }

unfoldable pub claim_of : List ℕ → Claim
claim_of text = asked_by (is_throughout text) (claim_of_words (words (long_form (asked_text text))))

-- Why a text is refused.

-- `throughout` may stand in front of it
abbrev pub may_be_throughout : Form → Bool
may_be_throughout Never = true
may_be_throughout Possible = false
may_be_throughout Always = true
may_be_throughout Implies = true
may_be_throughout Before = false

-- The side on which a word stands: `&` parts the facts of never, of possible, and on the left of an arrow, `|` those of
-- always and on its right; one fact stands on each side of before.
abbrev pub side_of : Form → Side
side_of Never = Ands
side_of Possible = Ands
side_of Always = Ors
side_of Implies = Left
side_of Before = First

abbrev pub mark_fits : Side → List ℕ → Bool
mark_fits Ands w = not (is_or w) && not (is_middle w)
mark_fits Left w = not (is_or w) && not (is_before w)
mark_fits Ors w = not (is_and w) && not (is_middle w)
mark_fits First w = not (is_and w) && not (is_or w) && not (is_arrow w)
mark_fits Alone w = not (is_mark w)

abbrev pub side_behind : Side → List ℕ → Side
side_behind Ands w = Ands
side_behind Left w = if is_arrow w then Ors else Left
side_behind Ors w = Ors
side_behind First w = if is_before w then Alone else First
side_behind Alone w = Alone

-- a mark between both sides has to come
abbrev pub is_left : Side → Bool
is_left Left = true
is_left First = true
is_left _ = false

-- each mark is one of its side, and there is one between both sides where there should be
abbrev pub marks_fit : Side → List (List ℕ) → Bool
marks_fit side [] = not (is_left side)
marks_fit side (w ∷ ws) = mark_fits side w && marks_fit (side_behind side w) ws

-- each word passes the test of its place
abbrev pub each_word : (Place → List ℕ → Bool) → Place → List (List ℕ) → Bool
each_word test p [] = true
each_word test p (w ∷ ws) = test p w && each_word test (place_behind p w) ws

abbrev pub last_place : Place → List (List ℕ) → Place
last_place p [] = p
last_place p (w ∷ ws) = last_place (place_behind p w) ws

-- so many facts more may come on this side; on the other 4 may stand again, of which one is there
abbrev pub are_few : ℕ → List (List ℕ) → Bool
are_few more [] = true
are_few more (w ∷ ws) =
    if is_middle w then are_few 3 ws else if is_mark w then nat_lt 0 more && are_few (more - 1) ws else are_few more ws

-- Of the tests 5 to 8 the first that fails gives the reason.

abbrev pub are_facts : Bool → Form → List (List ℕ) → Bool
are_facts throughout form ws =
    (not throughout || may_be_throughout form) && marks_fit (side_of form) ws && each_word is_word Start ws
    && may_end (last_place Start ws)

abbrev pub are_within : List (List ℕ) → Bool
are_within ws = are_few 3 ws && each_word is_within Start ws

abbrev pub first_fault : Bool → Bool → Bool → Bool → Option Reason
first_fault false is_spelled is_within is_known = Some Word
first_fault true false is_within is_known = Some Number
first_fault true true false is_known = Some Limit
first_fault true true true false = Some Unknown
first_fault true true true true = None

abbrev pub fault_of_facts : ℕ → List ℕ → Bool → Form → List (List ℕ) → Option Reason
fault_of_facts sites commands throughout form ws =
    first_fault (are_facts throughout form ws) (each_word is_spelled Start ws) (are_within ws)
    (each_word (is_known sites commands) Start ws)

abbrev pub fault_of_words : ℕ → List ℕ → Bool → List (List ℕ) → Option Reason
fault_of_words sites commands throughout ws = fault_of_facts sites commands throughout (form_in ws) (facts_of ws)

unfoldable pub fault_of : ℕ → List ℕ → List ℕ → Option Reason
fault_of sites commands text =
    fault_of_words sites commands (is_throughout text) (words (long_form (asked_text text)))
