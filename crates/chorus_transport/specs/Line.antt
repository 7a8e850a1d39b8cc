-- A line between a sender and a receiver of one window, which may lose, repeat and reorder what it is given.
use Rattle.std.specs.Prelude.{◌≡◌, ℕ, List, [], ◌∷◌, ◌++◌, Option, None, Some, slice_get, if◌then◌else◌}
use Rattle.chorus_transport.specs.declared.chunk.Chunk.{Chunk}
use Rattle.chorus_transport.specs.Sending.{Sending, new_sending, has_room, after_put, emitted, after_ack}
use Rattle.chorus_transport.specs.Receiving.{Receiving, new_receiving, after_arrival, next_chunk, after_next, ack_of}

-- its two ends, and all that ever happened: the chunks put, the chunks emitted with their numbers, the chunks delivered
-- and the acknowledgements sent, each in order
pub record Line : Type 0 where
  pub sender : Sending
  pub receiver : Receiving
  pub put : List Chunk
  pub emissions : List (ℕ × Chunk)
  pub delivered : List Chunk
  pub acks : List ℕ

-- What may happen next: a chunk is put, the chunk of a number is emitted, one of those ever emitted arrives, the next
-- one is delivered, an acknowledgement is sent, one of those ever sent arrives. A loss is an arrival that never comes.
-- Repeats and other orders are any choice of arrivals.
pub data Event : Type 0 where
  Put : (chunk : Chunk) → Event
  Emit : (number : ℕ) → Event
  Arrive : (which : ℕ) → Event
  Deliver : Event
  Acknowledge : Event
  Hear : (which : ℕ) → Event

abbrev pub emits : Line → ℕ → Option Chunk → Line
emits line number None = line
emits line number (Some chunk) = record line { emissions = line.emissions ++ (number, chunk) ∷ [] }

abbrev pub arrives : Line → Option (ℕ × Chunk) → Line
arrives line None = line
arrives line (Some (number, chunk)) = record line { receiver = after_arrival line.receiver number chunk }

abbrev pub delivers : Line → Option Chunk → Line
delivers line None = line
delivers line (Some chunk) = record line {
  receiver = after_next line.receiver;
  delivered = line.delivered ++ chunk ∷ [];
}

abbrev pub hears : Line → Option ℕ → Line
hears line None = line
hears line (Some upto) = record line { sender = after_ack line.sender upto }

-- Each event does what the call of its name ensures. One that names nothing, or a put at a full window, changes
-- nothing.
abbrev pub happens : Line → Event → Line
happens line (Put chunk) =
    if has_room line.sender
    then record line { sender = after_put line.sender chunk; put = line.put ++ chunk ∷ [] }
    else line
happens line (Emit number) = emits line number (emitted line.sender number)
happens line (Arrive which) = arrives line (slice_get line.emissions which)
happens line Deliver = delivers line (next_chunk line.receiver)
happens line Acknowledge = record line { acks = line.acks ++ ack_of line.receiver ∷ [] }
happens line (Hear which) = hears line (slice_get line.acks which)

-- one event after another
abbrev pub run : List Event → Line → Line
run [] line = line
run (event ∷ events) line = run events (happens line event)

-- a line that was just made
abbrev pub opening : ℕ → Line
opening window =
    record {
      sender = new_sending window;
      receiver = new_receiving window;
      put = [];
      emissions = [];
      delivered = [];
      acks = [];
    }

-- a line of that window, after these events
abbrev pub line_after : ℕ → List Event → Line
line_after window events = run events (opening window)

abbrev pub IsPrefixOf : List Chunk → List Chunk → Type 0
IsPrefixOf front whole = (rest : List Chunk) × (front ++ rest ≡ whole)
