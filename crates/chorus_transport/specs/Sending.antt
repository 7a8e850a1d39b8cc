-- The sending end of a line, as contracts see it.
use Rattle.std.specs.Prelude.{◌≡◌, ℕ, ◌+◌, ◌-◌, ◌^◌, ◌<◌, ◌≤◌, List, [], ◌∷◌, ◌++◌, length, drop, Bool, IsTrue, Option, None, nat_lt, nat_le, slice_get, if◌then◌else◌}
use Rattle.chorus_transport.specs.Window.{IsWindow}
use Rattle.chorus_transport.specs.declared.chunk.Chunk.{Chunk}
use Rattle.chorus_transport.specs.declared.sender.PutFault.{PutFault}
use Rattle.chorus_transport.specs.declared.sender.PutFault.TheVariants.{WindowFull, Memory}
use Rattle.chorus_transport.specs.declared.sender.Acked.{Acked}
use Rattle.chorus_transport.specs.declared.sender.Acked.TheVariants.{Moved, Old, Beyond}

-- Chunks are numbered from 0, as they are put. Those below base were acknowledged, and the others are kept.
pub record Sending : Type 0 where
  pub window : ℕ
  pub base : ℕ
  pub kept : List Chunk

-- what holds of each sender
pub record IsInOrder (window base : ℕ) (kept : List Chunk) : Type 0 where
  pub wide : IsWindow window
  pub within : length kept ≤ window
  pub small : base + length kept < 2 ^ 64

abbrev pub new_sending : ℕ → Sending
new_sending window = record { window = window; base = 0; kept = [] }

-- how many chunks were put
abbrev pub next_number : Sending → ℕ
next_number s = s.base + length s.kept

-- fewer chunks are kept than the window is wide
abbrev pub has_room : Sending → Bool
has_room s = nat_lt (length s.kept) s.window

-- why a chunk is not put
abbrev pub Refuses : Sending → PutFault → Type 0
Refuses s (WindowFull base next) = (length s.kept ≡ s.window) × (base ≡ s.base) × (next ≡ next_number s)
Refuses s (Memory fault) = IsTrue (has_room s)

-- where there is room
abbrev pub after_put : Sending → Chunk → Sending
after_put s chunk = record s { kept = s.kept ++ chunk ∷ [] }

-- the chunk of a number from base to next_number - 1
abbrev pub emitted : Sending → ℕ → Option Chunk
emitted s number = if nat_lt number s.base then None else slice_get s.kept (number - s.base)

-- what an acknowledgement of all chunks below upto does
abbrev pub answer_to : Sending → ℕ → Acked
answer_to s upto =
    if nat_le upto s.base then Old else if nat_le upto (next_number s) then Moved (upto - s.base) else Beyond

-- after that answer
abbrev pub moved : Sending → Acked → Sending
moved s (Moved by) = record s { base = s.base + by; kept = drop by s.kept }
moved s Old = s
moved s Beyond = s

abbrev pub after_ack : Sending → ℕ → Sending
after_ack s upto = moved s (answer_to s upto)
