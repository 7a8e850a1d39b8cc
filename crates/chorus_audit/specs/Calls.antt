-- What a call of the reader answers, beside what the words say.
use Rattle.std.specs.Prelude.{◌≡◌, ◌<◌, ◌≤◌, ℕ, nat_le, List, [], ◌∷◌, length, Option, Some, None, option_map, Result, Ok, Err, if◌then◌else◌}
use Rattle.chorus_ui.specs.declared.limits.TheConstants.{BODY_LIMIT}
use Rattle.chorus_ui.specs.Decimals.{parse_decimal}
use Rattle.chorus_entry.specs.declared.act.Act.{Act}
use Rattle.chorus_entry.specs.declared.entry.Entry.{Entry}
use Rattle.chorus_show.specs.Reading.{parts, first, second, third, rest, four, u16_in, u32_in, unescape, act_in, entry_of}
use Rattle.chorus_show.specs.Bounds.{AreBytes, has_room}
use Rattle.chorus_audit.specs.declared.fault.Unread.{Unread}
use Rattle.chorus_audit.specs.declared.fault.Unread.TheVariants.{NoEntry, Memory}

-- what stands behind the first part of a text
abbrev pub behind : ℕ → Option (List ℕ) → List ℕ
behind c None = []
behind c (Some text) = c ∷ text

abbrev pub parts_behind : ℕ → Option (List ℕ) → List (List ℕ)
parts_behind c None = []
parts_behind c (Some text) = parts c text

-- the words say nothing; want of memory says nothing of them
abbrev pub Misses : {A : Type 0} → Unread → Option A → Type 0
Misses NoEntry said = said ≡ None
Misses (Memory error) said = Unit {0}

-- the call gives what the words say, unless there is no memory
abbrev pub Reads : {A : Type 0} → Result A Unread → Option A → Type 0
Reads (Ok value) said = said ≡ Some value
Reads (Err fault) said = Misses fault said

-- of what was read, that which an entry has room for
abbrev pub short : Option (List ℕ) → Option (List ℕ)
short None = None
short (Some bytes) = if nat_le (length bytes) BODY_LIMIT then Some bytes else None

-- the bytes of an escaped text, that a body has room for
pub record IsUnescaped (bytes text : List ℕ) : Type 0 where
  pub is : bytes ≡ unescape None text
  pub few : length bytes ≤ BODY_LIMIT
  pub are_bytes : AreBytes bytes

abbrev pub IsLong : Unread → List ℕ → Type 0
IsLong NoEntry bytes = BODY_LIMIT < length bytes
IsLong (Memory error) bytes = Unit {0}

abbrev pub held : Option Act → Option Act
held None = None
held (Some act) = if has_room act then Some act else None

abbrev pub entry_held : List (List ℕ) → Option Entry
entry_held ts = option_map entry_of (four (parse_decimal (first ts)) (u16_in (second ts)) (u32_in (third ts))
    (held (act_in (rest (rest (rest ts))))))
