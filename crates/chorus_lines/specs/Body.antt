-- How a body is spelled: = and its bytes, or x and two digits for each byte.
use Rattle.std.specs.Prelude.{ℕ, ◌+◌, ◌*◌, ◌-◌, ◌/◌, ◌%◌, Bool, false, ◌&&◌, ◌||◌, List, [], ◌∷◌, length, Option, Some, None, nat_lt, nat_le, ◌==◌, if◌then◌else◌}
use Rattle.std.specs.List.{flat_map}
use Rattle.chorus_lines.specs.Text.{each_byte, is_plain}

-- a body begins with = (61), or from version 2 on with x (120)
abbrev pub begins_a_body : ℕ → List ℕ → Bool
begins_a_body version [] = false
begins_a_body version (c ∷ cs) = (c == 61) || (nat_le 2 version && (c == 120))

-- the digits 0 to 9 and a to f
abbrev pub is_hex : ℕ → Bool
is_hex c = (nat_le 48 c && nat_le c 57) || (nat_le 97 c && nat_le c 102)

abbrev pub hex_value : ℕ → ℕ
hex_value c = if nat_le c 57 then c - 48 else c - 87

-- the bytes that two digits each stand for
unfoldable pub pairs : List ℕ → List ℕ
pairs [] = []
pairs (c ∷ []) = []
pairs (c ∷ d ∷ cs) = (16 * hex_value c + hex_value d) ∷ pairs cs

abbrev pub is_hex_text : List ℕ → Bool
is_hex_text text = (length text % 2 == 0) && each_byte is_hex text

-- the bytes of an even number of digits
abbrev pub bytes_of_hex : List ℕ → Option (List ℕ)
bytes_of_hex digits = if is_hex_text digits then Some (pairs digits) else None

-- the bytes of a body; its mark is known to be one
unfoldable pub body_in : List ℕ → Option (List ℕ)
body_in [] = None
body_in (c ∷ cs) = if c == 61 then Some cs else bytes_of_hex cs

abbrev pub hex_digit : ℕ → ℕ
hex_digit n = if nat_lt n 10 then 48 + n else 87 + n

abbrev pub hex_text : List ℕ → List ℕ
hex_text bytes = flat_map (λ b. hex_digit (b / 16) ∷ hex_digit (b % 16) ∷ []) bytes

-- the one way in which a body is printed
abbrev pub body_text : List ℕ → List ℕ
body_text bytes = if each_byte is_plain bytes then 61 ∷ bytes else 120 ∷ hex_text bytes
