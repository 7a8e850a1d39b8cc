-- The words of a line, which stand between spaces, and of a claim, whose short forms are nothing but their long form.
use Rattle.std.specs.Prelude.{ℕ, ◌+◌, ◌==◌, length, true, false, if◌then◌else◌, Bool, ◌&&◌, ◌||◌, nat_le, List, [], ◌∷◌, map, Option, Some, None, is_some, unwrap_or, codes}
use Rattle.std.specs.Str.{bytes_eq}
use Rattle.chorus_lines.specs.Text.{cut, in_front, lines}

-- the parts of a text, which stand between these marks
unfoldable pub parts : ℕ → List ℕ → List (List ℕ)
parts mark [] = [] ∷ []
parts mark (c ∷ cs) = if c == mark then [] ∷ parts mark cs else in_front c (parts mark cs)

-- the parts of what stands behind a mark
abbrev pub parts_behind : ℕ → Option (List ℕ) → List (List ℕ)
parts_behind mark None = []
parts_behind mark (Some text) = parts mark text

-- 32 is the space
abbrev pub words : List ℕ → List (List ℕ)
words text = parts 32 text

abbrev pub words_behind : Option (List ℕ) → List (List ℕ)
words_behind text = parts_behind 32 text

abbrev pub not_empty : List (List ℕ) → Bool
not_empty [] = false
not_empty (w ∷ ws) = true

-- how much is left to read
abbrev pub text_left : Option (List ℕ) → ℕ
text_left None = 0
text_left (Some text) = length text + 1

-- the words of each line of a text of facts
abbrev pub words_in : List ℕ → List (List (List ℕ))
words_in text = map words (lines text)

-- what stands behind `throughout`, where that is the first word
unfoldable pub behind_throughout : List ℕ → Option (List ℕ)
behind_throughout text = if bytes_eq (cut 32 text).0 (codes "throughout") then (cut 32 text).1 else None

abbrev pub is_throughout : List ℕ → Bool
is_throughout text = is_some (behind_throughout text)

-- what is claimed, without that word
abbrev pub asked_text : List ℕ → List ℕ
asked_text text = unwrap_or (behind_throughout text) text

-- the long form of a claim
unfoldable pub long_call_form : List ℕ → List ℕ
long_call_form text =
    if bytes_eq text (codes "requests replied") then
    codes "answer S * take * X .. & answer C * post X * * request N .. => answer S * post * port * reply C N .."
    else if bytes_eq text (codes "nothing late") then codes "never answer * * take * * late *"
    else if bytes_eq text (codes "calls settled") then codes "never outstanding * *"
    else text

unfoldable pub long_form : List ℕ → List ℕ
long_form text =
    if bytes_eq text (codes "nothing refused") then codes "verdict X A .. => verdict X accepted | verdict X chosen"
    else if bytes_eq text (codes "nothing lost") then codes "verdict X accepted => answer * * take * X .. | port * * .. X .."
    else if bytes_eq text (codes "nothing left") then codes "port P A .. => port P A"
    else long_call_form text

-- the marks between facts: & (38) and | (124), and between both sides => and before
abbrev pub is_and : List ℕ → Bool
is_and word = bytes_eq word (38 ∷ [])

abbrev pub is_or : List ℕ → Bool
is_or word = bytes_eq word (124 ∷ [])

abbrev pub is_arrow : List ℕ → Bool
is_arrow word = bytes_eq word (codes "=>")

abbrev pub is_before : List ℕ → Bool
is_before word = bytes_eq word (codes "before")

abbrev pub is_middle : List ℕ → Bool
is_middle word = is_arrow word || is_before word

abbrev pub is_mark : List ℕ → Bool
is_mark word = is_and word || is_or word || is_middle word

-- `*` (42) is any one word, `..` any number of them
abbrev pub is_any : List ℕ → Bool
is_any word = bytes_eq word (42 ∷ [])

abbrev pub is_rest : List ℕ → Bool
is_rest word = bytes_eq word (codes "..")

-- a capital letter alone, A (65) to Z (90)
abbrev pub letter_in : List ℕ → Option ℕ
letter_in [] = None
letter_in (c ∷ []) = if nat_le 65 c && nat_le c 90 then Some c else None
letter_in (c ∷ d ∷ cs) = None
