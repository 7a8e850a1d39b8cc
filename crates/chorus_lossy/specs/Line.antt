-- The two ends of the line, and what may happen to them.
use Rattle.std.specs.Prelude.{ℕ, ◌*◌, List, [], ◌∷◌, length, take, drop}
use Rattle.std.specs.Int.{div_ceil}
use Rattle.chorus_transport.specs.declared.chunk.Chunk.{Chunk}
use Rattle.chorus_transport.specs.Sending.{Sending, new_sending, after_put, after_ack}
use Rattle.chorus_transport.specs.Receiving.{Receiving, new_receiving, after_arrival, after_next}
use Rattle.chorus_lossy.specs.declared.line.TheConstants.{CHUNK_BYTES, WINDOW}

-- The bytes are carried in chunks of 64, of which the last one may be shorter. They are numbered from 0.

abbrev pub chunk_at : List ℕ → ℕ → List ℕ
chunk_at bytes i = take CHUNK_BYTES (drop (i * CHUNK_BYTES) bytes)

abbrev pub chunk_count : List ℕ → ℕ
chunk_count bytes = div_ceil (length bytes) CHUNK_BYTES

-- how many windows they fill, of which the last one may have fewer
abbrev pub window_count : List ℕ → ℕ
window_count bytes = div_ceil (chunk_count bytes) WINDOW

pub record Ends : Type 0 where
  pub sender : Sending
  pub receiver : Receiving

abbrev pub ends : Sending → Receiving → Ends
ends s r = record { sender = s; receiver = r }

-- ends that were just made
abbrev pub new_ends : Ends
new_ends = ends (new_sending WINDOW) (new_receiving WINDOW)

-- A chunk is put, a chunk arrives under a number, the next one is delivered, an acknowledgement arrives.
pub data Event : Type 0 where
  Put : (chunk : Chunk) → Event
  Arrive : (number : ℕ) → (chunk : Chunk) → Event
  Deliver : Event
  Hear : (upto : ℕ) → Event

-- what the call of that name makes of the ends
abbrev pub happens : Event → Ends → Ends
happens (Put chunk) e = record e { sender = after_put e.sender chunk }
happens (Arrive number chunk) e = record e { receiver = after_arrival e.receiver number chunk }
happens Deliver e = record e { receiver = after_next e.receiver }
happens (Hear upto) e = record e { sender = after_ack e.sender upto }

-- the ends after these events, of which the latest stands first
abbrev pub after : List Event → Ends → Ends
after [] e = e
after (event ∷ past) e = happens event (after past e)
