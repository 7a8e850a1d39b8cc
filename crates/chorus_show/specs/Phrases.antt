-- The parts of a line: phrases, ids and bodies.
use Rattle.std.specs.Prelude.{ℕ, ◌+◌, ◌/◌, ◌%◌, ◌==◌, Bool, ◌&&◌, not, nat_lt, nat_le, if◌then◌else◌, List, [], ◌∷◌, ◌++◌, decimal}
use Rattle.std.specs.List.{flat_map}
use Rattle.chorus_entry.specs.declared.id.MsgId.{MsgId}

-- each field behind one space
abbrev pub spaced : List (List ℕ) → List ℕ
spaced = flat_map (λ field. 32 ∷ field)

-- a word, and the fields that go with it
abbrev pub phrase : List ℕ → List (List ℕ) → List ℕ
phrase word fields = word ++ spaced fields

-- `SEAT:NUMBER:COPY`
abbrev pub id_text : MsgId → List ℕ
id_text x = decimal x.seat ++ 58 ∷ decimal x.number ++ 58 ∷ decimal x.copy

-- a byte that stands for itself: 0x20 to 0x7E, but for `%`
abbrev pub stands_for_itself : ℕ → Bool
stands_for_itself c = nat_le 32 c && nat_le c 126 && not (c == 37)

-- a hexadecimal digit, in lower case
abbrev pub hex_digit : ℕ → ℕ
hex_digit d = if nat_lt d 10 then 48 + d else 87 + d

-- any other byte is `%` and two digits
abbrev pub byte_text : ℕ → List ℕ
byte_text c = if stands_for_itself c then c ∷ [] else 37 ∷ hex_digit (c / 16) ∷ hex_digit (c % 16) ∷ []

-- `=BODY`
abbrev pub escaped_body : List ℕ → List ℕ
escaped_body bytes = 61 ∷ flat_map byte_text bytes
