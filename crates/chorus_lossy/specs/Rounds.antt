-- The rounds in which bytes are carried, over a line that loses, repeats and reorders by draws.
-- n is the number of a round, from 1, i that of a chunk, from 0, and fate the last digit of a draw in base four.
use Rattle.std.specs.Prelude.{ℕ, zero, suc, ◌+◌, ◌-◌, ◌%◌, ◌==◌, ◌&&◌, not, Bool, min, List, [], ◌∷◌, ◌++◌, length, Option, None, Some, is_some, if◌then◌else◌}
use Rattle.std.specs.List.{prefix_len}
use Rattle.chorus_draw.specs.Draws.{next_state, number_of}
use Rattle.chorus_transport.specs.declared.chunk.Chunk.{Chunk}
use Rattle.chorus_transport.specs.Sending.{Sending, next_number, emitted}
use Rattle.chorus_transport.specs.Receiving.{next_chunk, ack_of}
use Rattle.chorus_lossy.specs.Line.{Ends, Event, Put, Arrive, Deliver, Hear, new_ends, happens, chunk_at, chunk_count}

-- What is so at a moment of the run: the ends, what happened to them, the latest first, what the generator has come to,
-- the chunks that are held, the latest first, the bytes that were delivered, and what was counted.
pub record Moment : Type 0 where
  pub ends : Ends
  pub events : List Event
  pub state : ℕ
  pub held : List (ℕ × Chunk)
  pub delivered : List ℕ
  pub emitted : ℕ
  pub lost : ℕ

abbrev pub happened : Event → Moment → Moment
happened event m = record m { ends = happens event m.ends; events = event ∷ m.events }

abbrev pub arrived : ℕ → Chunk → Moment → Moment
arrived i chunk m = happened (Arrive i chunk) m

abbrev pub held_back : ℕ → Chunk → Moment → Moment
held_back i chunk m = record m { held = (i, chunk) ∷ m.held }

abbrev pub one_lost : Moment → Moment
one_lost m = record m { lost = m.lost + 1 }

-- a round whose number is a multiple of 4 loses nothing
abbrev pub is_lost : ℕ → ℕ → Bool
is_lost n fate = fate == 0 && not (n % 4 == 0)

-- 1. Chunks are put while the window has room.

abbrev pub room : List ℕ → Sending → ℕ
room bytes s = min (chunk_count bytes - next_number s) (s.window - length s.kept)

abbrev pub put_next : List ℕ → Moment → Moment
put_next bytes m = happened (Put (chunk_at bytes (next_number m.ends.sender))) m

-- so many of them
abbrev pub puts : List ℕ → ℕ → Moment → Moment
puts bytes zero m = m
puts bytes (suc k) m = put_next bytes (puts bytes k m)

unfoldable pub filled : List ℕ → Moment → Moment
filled bytes m = puts bytes (room bytes m.ends.sender) m

-- 2. Each chunk that the sender keeps is emitted, with one draw: it is lost, or arrives twice, or is held, or arrives
-- once.

abbrev pub sent : ℕ → ℕ → ℕ → Chunk → Moment → Moment
sent n fate i chunk m =
    if is_lost n fate then one_lost m
    else if fate == 1 then arrived i chunk (arrived i chunk m)
    else if fate == 2 then held_back i chunk m
    else arrived i chunk m

abbrev pub sent_if_kept : ℕ → ℕ → ℕ → Option Chunk → Moment → Moment
sent_if_kept n fate i None m = m
sent_if_kept n fate i (Some chunk) m = sent n fate i chunk m

unfoldable pub emission : ℕ → ℕ → Moment → Moment
emission n i m =
    let x = next_state m.state in
    sent_if_kept n (number_of x % 4) i (emitted m.ends.sender i) (record m { state = x; emitted = m.emitted + 1 })

-- so many of them, from this number on
abbrev pub emissions : ℕ → ℕ → ℕ → Moment → Moment
emissions n from zero m = m
emissions n from (suc k) m = emission n (from + k) (emissions n from k m)

unfoldable pub all_sent : ℕ → Moment → Moment
all_sent n m = emissions n m.ends.sender.base (length m.ends.sender.kept) m

-- 3. Those that are held arrive, the latest first. All that the receiver gives is delivered.

abbrev pub releases : List (ℕ × Chunk) → Moment → Moment
releases [] m = m
releases ((i, chunk) ∷ held) m = releases held (arrived i chunk (record m { held = held }))

unfoldable pub released : Moment → Moment
released m = releases m.held m

abbrev pub given : Option Chunk → Moment → Moment
given None m = m
given (Some chunk) m = record (happened Deliver m) { delivered = m.delivered ++ chunk }

abbrev pub deliveries : ℕ → Moment → Moment
deliveries zero m = m
deliveries (suc k) m = deliveries k (given (next_chunk m.ends.receiver) m)

unfoldable pub all_delivered : Moment → Moment
all_delivered m = deliveries (prefix_len is_some m.ends.receiver.ahead) m

-- 4. With one draw the acknowledgement is lost or arrives.

abbrev pub heard : ℕ → ℕ → Moment → Moment
heard n fate m = if is_lost n fate then one_lost m else happened (Hear (ack_of m.ends.receiver)) m

unfoldable pub acknowledged : ℕ → Moment → Moment
acknowledged n m = let x = next_state m.state in heard n (number_of x % 4) (record m { state = x })

-- The run: a round after the other, until all is delivered, which may be in the midst of the last one.

abbrev pub is_done : List ℕ → Moment → Bool
is_done bytes m = length m.delivered == length bytes

abbrev pub unless_done : List ℕ → (Moment → Moment) → Moment → Moment
unless_done bytes next m = if is_done bytes m then m else next m

unfoldable pub round : List ℕ → ℕ → Moment → Moment
round bytes n m = unless_done bytes (acknowledged n) (all_delivered (released (all_sent n (filled bytes m))))

-- nothing happened yet
abbrev pub opening : ℕ → Moment
opening first = record { ends = new_ends; events = []; state = first; held = []; delivered = []; emitted = 0; lost = 0 }

-- after so many rounds; where all is delivered, a further one is none
unfoldable pub after_rounds : ℕ → List ℕ → ℕ → Moment
after_rounds first bytes zero = opening first
after_rounds first bytes (suc k) = unless_done bytes (round bytes (suc k)) (after_rounds first bytes k)
