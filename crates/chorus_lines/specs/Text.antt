-- Bytes, lines and fields.
use Rattle.std.specs.Prelude.{ℕ, zero, suc, ◌^◌, min, Bool, true, false, not, ◌&&◌, ◌||◌, List, [], ◌∷◌, length, Option, Some, None, nat_le, ◌==◌, if◌then◌else◌}
use Rattle.chorus_ui.specs.Decimals.{is_decimal, decimal_value}

-- what stands before the first of these marks, and what stands behind it
unfoldable pub cut : ℕ → List ℕ → List ℕ × Option (List ℕ)
cut mark [] = ([], None)
cut mark (c ∷ cs) = if c == mark then ([], Some cs) else (c ∷ (cut mark cs).0, (cut mark cs).1)

-- a byte more in front of the first line
abbrev pub in_front : ℕ → List (List ℕ) → List (List ℕ)
in_front c [] = (c ∷ []) ∷ []
in_front c (line ∷ lines) = (c ∷ line) ∷ lines

-- the lines of a text: each ends with LF, which is 10, and the last may lack it
unfoldable pub lines : List ℕ → List (List ℕ)
lines [] = []
lines (c ∷ cs) = if c == 10 then [] ∷ lines cs else in_front c (lines cs)

-- n fields of what stands behind a space, which is 32, and all that is left as one field more
abbrev pub fields : ℕ → Option (List ℕ) → List (List ℕ)
fields n None = []
fields zero (Some text) = text ∷ []
fields (suc n) (Some text) = (cut 32 text).0 ∷ fields n (cut 32 text).1

abbrev pub is_empty : List ℕ → Bool
is_empty [] = true
is_empty (c ∷ cs) = false

abbrev pub some_empty : List (List ℕ) → Bool
some_empty [] = false
some_empty (field ∷ fields) = is_empty field || some_empty fields

-- n fields, none of them empty
abbrev pub are_fields : ℕ → List (List ℕ) → Bool
are_fields n fields = (length fields == n) && not (some_empty fields)

unfoldable pub each_byte : (ℕ → Bool) → List ℕ → Bool
each_byte test [] = true
each_byte test (c ∷ cs) = test c && each_byte test cs

-- a byte of 0x20 to 0x7E
abbrev pub is_plain : ℕ → Bool
is_plain c = nat_le 32 c && nat_le c 126

abbrev pub is_text : List ℕ → Bool
is_text line = each_byte is_plain line

-- an empty line, or one that begins with #, which is 35
abbrev pub is_skipped : List ℕ → Bool
is_skipped [] = true
is_skipped (c ∷ cs) = c == 35

-- the number of a decimal; what is beyond 64 bits counts as 2 ^ 64
abbrev pub number_in : List ℕ → Option ℕ
number_in text = if is_decimal text then Some (min (decimal_value text) (2 ^ 64)) else None
