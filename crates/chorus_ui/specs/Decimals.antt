-- Decimals: no sign, and no leading zero but `0` itself. std's `decimal` is the one spelling of a number.
use Rattle.std.specs.Prelude.{ℕ, ◌+◌, ◌-◌, ◌*◌, ◌^◌, Bool, false, not, ◌&&◌, ◌||◌, ◌==◌, nat_lt, List, [], ◌∷◌, length, Option, Some, None, if◌then◌else◌}
use Rattle.std.specs.Char.{is_ascii_digit}
use Rattle.std.specs.List.{list_all}
use Rattle.std.specs.Str.Parse.{digits_value}

abbrev pub all_digits : List ℕ → Bool
all_digits text = list_all is_ascii_digit text

-- a first byte that may begin a decimal: `0` (48) only where it stands alone
abbrev pub begins_decimal : List ℕ → Bool
begins_decimal [] = false
begins_decimal (c ∷ cs) = not (c == 48) || length cs == 0

-- the text is a decimal, of any length
abbrev pub is_decimal : List ℕ → Bool
is_decimal text = begins_decimal text && all_digits text

-- the number that digits write
abbrev pub decimal_value : List ℕ → ℕ
decimal_value text = digits_value 10 text

-- it, where it has 64 bits
abbrev pub value_in_64_bits : List ℕ → Option ℕ
value_in_64_bits text = if nat_lt (decimal_value text) (2 ^ 64) then Some (decimal_value text) else None

-- the number of 64 bits that the digits of n write with one more behind them
abbrev pub read_digit : ℕ → ℕ → Option ℕ
read_digit n c = if is_ascii_digit c && nat_lt (n * 10 + (c - 48)) (2 ^ 64) then Some (n * 10 + (c - 48)) else None

-- the number of 64 bits whose decimal this is
unfoldable pub parse_decimal : List ℕ → Option ℕ
parse_decimal text = if is_decimal text then value_in_64_bits text else None
