-- The bytes of a message.
use Rattle.std.specs.Prelude.{ℕ, ◌<◌, ◌≤◌, Bool, ◌==◌, List, length, take}
use Rattle.std.specs.Cmp.Lexicographic.{pointwise}
use Rattle.chorus_ui.specs.declared.limits.TheConstants.{BODY_LIMIT}
use Rattle.chorus_entry.specs.declared.body.TheConstants.{SHORT_LIMIT}
use Rattle.chorus_entry.specs.declared.body.Bytes.{Bytes}
use Rattle.chorus_entry.specs.declared.body.Bytes.TheVariants.{Short, Long}

-- the two bodies have the same bytes
abbrev pub same_body : List ℕ → List ℕ → Bool
same_body = pointwise ◌==◌

-- the bytes that stand in a body itself, at the head of its room, or in memory of their own
abbrev pub bytes_of : Bytes → List ℕ
bytes_of (Short len room) = take len room
bytes_of (Long bytes) = bytes.value.items

-- of a short body no more than its room, of a long one more, and no more than the limit
abbrev pub IsWithin : Bytes → Type 0
IsWithin (Short len room) = len ≤ SHORT_LIMIT
IsWithin (Long bytes) = (SHORT_LIMIT < length bytes.value.items) × (length bytes.value.items ≤ BODY_LIMIT)
