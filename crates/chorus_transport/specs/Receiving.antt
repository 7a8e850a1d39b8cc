-- The receiving end of a line, as contracts see it.
use Rattle.std.specs.Prelude.{◌≡◌, ℕ, ◌+◌, ◌-◌, ◌^◌, ◌<◌, ◌≤◌, List, [], ◌∷◌, ◌++◌, length, drop, replicate, Bool, ◌||◌, Option, None, Some, is_some, nat_lt, nat_le, slice_index_or, slice_set, if◌then◌else◌}
use Rattle.std.specs.List.{prefix_len}
use Rattle.chorus_transport.specs.Window.{IsWindow}
use Rattle.chorus_transport.specs.declared.chunk.Chunk.{Chunk}
use Rattle.chorus_transport.specs.declared.receiver.Got.{Got}
use Rattle.chorus_transport.specs.declared.receiver.Got.TheVariants.{Kept, Old, Far}

-- Chunks are delivered in the order of their numbers. ahead has a place for each number of the window, from the next
-- one to be delivered on, and in it the chunk, where it is kept.
pub record Receiving : Type 0 where
  pub delivered : ℕ
  pub ahead : List (Option Chunk)

-- a window's places, of which the first are these and no other is filled
abbrev pub padded : ℕ → List (Option Chunk) → List (Option Chunk)
padded window places = places ++ replicate (window - length places) None

-- what holds of each receiver, of whose places the first ready are filled
pub record IsInOrder (window delivered ready : ℕ) (places : List (Option Chunk)) : Type 0 where
  pub wide : IsWindow window
  pub within : length places ≤ window
  pub small : delivered + length places < 2 ^ 64
  pub counted : ready ≡ prefix_len is_some places

abbrev pub new_receiving : ℕ → Receiving
new_receiving window = record { delivered = 0; ahead = replicate window None }

-- was delivered, or is kept
abbrev pub is_known : Receiving → ℕ → Bool
is_known r number = nat_lt number r.delivered || is_some (slice_index_or r.ahead (number - r.delivered) None)

-- what is done with a chunk of that number
abbrev pub answer_to : Receiving → ℕ → Got
answer_to r number =
    if is_known r number then Old else if nat_le (r.delivered + length r.ahead) number then Far else Kept

-- after that answer
abbrev pub kept : Receiving → ℕ → Chunk → Got → Receiving
kept r number chunk Kept = record r { ahead = slice_set r.ahead (number - r.delivered) (Some chunk) }
kept r number chunk Old = r
kept r number chunk Far = r

abbrev pub after_arrival : Receiving → ℕ → Chunk → Receiving
after_arrival r number chunk = kept r number chunk (answer_to r number)

-- the chunk that is delivered next, where it is kept
abbrev pub next_chunk : Receiving → Option Chunk
next_chunk r = slice_index_or r.ahead 0 None

-- after it was delivered
abbrev pub passed : Receiving → Option Chunk → Receiving
passed r None = r
passed r (Some chunk) = record { delivered = r.delivered + 1; ahead = drop 1 r.ahead ++ None ∷ [] }

abbrev pub after_next : Receiving → Receiving
after_next r = passed r (next_chunk r)

-- the least number that is not known
abbrev pub ack_of : Receiving → ℕ
ack_of r = r.delivered + prefix_len is_some r.ahead
