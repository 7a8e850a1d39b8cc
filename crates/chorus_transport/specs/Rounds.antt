-- Progress: what a line brings in a round in which it loses nothing, and in many rounds of which some lose nothing.
use Rattle.std.specs.Prelude.{◌≡◌, ℕ, zero, suc, ◌+◌, ◌*◌, ◌<◌, ◌≤◌, List, [], ◌∷◌, ◌++◌, length, map, take, drop, replicate}
use Rattle.std.specs.List.{Contains}
use Rattle.chorus_transport.specs.declared.chunk.Chunk.{Chunk}
use Rattle.chorus_transport.specs.Line.{Line, Event, Put, Emit, Arrive, Deliver, Acknowledge, Hear, run, line_after, IsPrefixOf}

-- What the line brings in a round: which of the emissions arrive, and which of the acknowledgements, in this order.
-- Each is one of all that were ever sent, by its place among them from 0. So it loses, repeats, reorders and brings
-- what is old.
pub record Brought : Type 0 where
  pub emissions : List ℕ
  pub acks : List ℕ

-- all that is ready is delivered: as many deliveries as the window is wide are enough
abbrev pub deliveries : Line → List Event
deliveries line = replicate line.sender.window Deliver

-- so many chunks are emitted, from this number on
abbrev pub emit_from : ℕ → ℕ → List Event
emit_from number zero = []
emit_from number (suc count) = Emit number ∷ emit_from (number + 1) count

-- The receiver delivers what is ready, the sender emits all that it keeps, and what is brought of the emissions
-- arrives; the receiver delivers again and acknowledges, and what is brought of the acknowledgements arrives.
abbrev pub a_round : Line → Brought → List Event
a_round line brought =
    deliveries line
    ++ emit_from line.sender.base (length line.sender.kept)
    ++ map (λ which. Arrive which) brought.emissions
    ++ deliveries line
    ++ Acknowledge ∷ map (λ which. Hear which) brought.acks

abbrev pub after_round : Line → Brought → Line
after_round line brought = run (a_round line brought) line

-- what is emitted in the round arrives, and so does the acknowledgement, whatever else is brought, and in any order
pub record LosesNothing (line : Line) (brought : Brought) : Type 0 where
  pub emissions : (k : ℕ) → k < length line.sender.kept → Contains brought.emissions (length line.emissions + k)
  pub acks : Contains brought.acks (length line.acks)

-- these are all that was put, all of them are delivered, and all are acknowledged
pub record HasAll (chunks : List Chunk) (line : Line) : Type 0 where
  pub put : line.put ≡ chunks
  pub delivered : line.delivered ≡ chunks
  pub acknowledged : line.sender.base ≡ length chunks
  pub kept : line.sender.kept ≡ []

-- From whatever came before, one round that loses nothing brings all.
abbrev pub OneRoundBringsAll : Type 0
OneRoundBringsAll = (window : ℕ) (events : List Event) (brought : Brought) →
    let line = line_after window events in LosesNothing line brought → HasAll line.put (after_round line brought)

-- An input is sent in rounds. Before each the rest of it is put, as far as the window has room.
abbrev pub filled : List Chunk → Line → Line
filled input line = run (map (λ chunk. Put chunk) (drop (length line.put) input)) line

-- what the line brings, by the number of the round, from 0, and by all that happened so far
abbrev pub Rule : Type 0
Rule = ℕ → Line → Brought

-- after so many rounds, from this line on
abbrev pub after_rounds : List Chunk → Rule → Line → ℕ → Line
after_rounds input rule line zero = line
after_rounds input rule line (suc k) =
    let begins = filled input (after_rounds input rule line k) in after_round begins (rule k begins)

abbrev pub IsWhole : List Chunk → Rule → Line → ℕ → Type 0
IsWhole input rule line k =
    let begins = filled input (after_rounds input rule line k) in LosesNothing begins (rule k begins)

-- of any n rounds in a row one at least loses nothing, and each of the others may lose all
abbrev pub IsFair : ℕ → List Chunk → Rule → Line → Type 0
IsFair n input rule line = (from : ℕ) → (k : ℕ) × (from ≤ k) × (k < from + n) × IsWhole input rule line k

-- the first so many of the input's chunks, or all, are delivered and acknowledged
pub record HasFirst (count : ℕ) (input : List Chunk) (line : Line) : Type 0 where
  pub delivered : take count line.delivered ≡ take count input
  pub acknowledged : length (take count input) ≤ line.sender.base

-- n rounds for each window of the input are enough
pub record BringsInput (window n : ℕ) (input : List Chunk) (rule : Rule) (line : Line) : Type 0 where
  pub steady : (windows : ℕ) → HasFirst (windows * window) input (after_rounds input rule line (windows * n))
  pub ends : (windows : ℕ) → length input ≤ windows * window →
      HasAll input (after_rounds input rule line (windows * n))

-- from whatever came before, by whatever rule that is fair
abbrev pub FairLinesBringTheInput : Type 0
FairLinesBringTheInput = (window : ℕ) (events : List Event) (n : ℕ) (input : List Chunk) (rule : Rule) →
    let line = line_after window events in
    IsPrefixOf line.put input → IsFair n input rule line → BringsInput window n input rule line
