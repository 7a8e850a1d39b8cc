-- The values of the code at a moment of the run.
use Rattle.std.specs.Prelude.{ℕ, ◌≡◌, ◌+◌, ◌-◌, ◌<◌, ◌≤◌, ◌^◌, List, ◌++◌, length, reverse, All}
use Rattle.chorus_transport.specs.declared.chunk.Chunk.{Chunk}
use Rattle.chorus_transport.specs.Sending.{Sending}
use Rattle.chorus_transport.specs.Receiving.{Receiving}
use Rattle.chorus_lossy.specs.declared.rounds.Run.{Run}
use Rattle.chorus_lossy.specs.Line.{Ends, Event, ends, after}
use Rattle.chorus_lossy.specs.Rounds.{Moment}

-- the moment at which the values are these, where these are the events
abbrev pub at : Run → Sending → Receiving → List Event → Moment
at run s r events = record {
  ends = ends s r;
  events = events;
  state = run.state;
  held = reverse run.held.items;
  delivered = run.delivered.items;
  emitted = run.emitted;
  lost = run.lost;
}

abbrev pub IsAt : Moment → Run → Sending → Receiving → Type 0
IsAt m run s r = m ≡ at run s r m.events

-- what happened between two moments, the latest first
pub record Grows (m later : Moment) : Type 0 where
  pub since : List Event
  pub events : later.events ≡ since ++ m.events
  pub ends : later.ends ≡ after since m.ends

-- the numbers of chunks are small enough for the receiver
abbrev pub AreSmall : List (ℕ × Chunk) → Type 0
AreSmall held = All (λ h. h.0 < 2 ^ 64 - 1) held

-- the chunk of this number may be emitted, which the sender keeps: the counts go up by one, and all numbers of chunks are
-- small enough for the receiver
pub record MayEmit (number : ℕ) (run : Run) (s : Sending) : Type 0 where
  pub kept : (s.base ≤ number) × (number < s.base + length s.kept)
  pub small : number < 2 ^ 64 - 1
  pub emitted : run.emitted + 1 < 2 ^ 64
  pub lost : run.lost + 1 < 2 ^ 64
  pub held : AreSmall run.held.items

-- the ends are those of a moment between the two
pub record IsBetween (m later : Moment) (e : Ends) : Type 0 where
  pub mid : Moment
  pub from : Grows m mid
  pub to : Grows mid later
  pub ends : e ≡ mid.ends
