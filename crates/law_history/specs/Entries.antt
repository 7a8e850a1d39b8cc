-- The entries that a turn appends, and their clocks.
-- l is a layout, p the number of a place, s a place, w a caller, i what the turn takes. A journal has its newest entry
-- first.
use Rattle.std.specs.Prelude.{ℕ, ◌≡◌, ◌<◌, true, List, ◌∷◌, ◌++◌, []}
use Rattle.std.specs.List.{All}
use Rattle.chorus_ui.specs.declared.layout.Layout.{Layout}
use Rattle.chorus_entry.specs.declared.entry.Entry.{Entry}
use Rattle.chorus_entry.specs.declared.command.Command.{Command}
use Rattle.chorus_entry.specs.declared.packet.Packet.{Packet}
use Rattle.chorus_world.specs.Places.{last_clock}
use Rattle.chorus_calls.specs.Callers.{Seated}
use Rattle.law_machine.specs.PlaceState.{PlaceState, started}
use Rattle.law_history.specs.Turns.{Input, Turn}
use Rattle.law_history.specs.Histories.{Takes}
use Rattle.law_history.specs.PlaceTurns.{turn, may_take, machine}

-- of this place and seat
pub record IsMadeBy (number seat : ℕ) (e : Entry) : Type 0 where
  pub place : e.place ≡ number
  pub seat_is : e.seat ≡ seat

-- the turn appends a first entry, with the clock that is noted of it, and perhaps newer ones: all of the place, which
-- keeps layout and number, and of the caller in whose turn it is, who keeps seat and actor
pub record Appends (i : Input Command Packet) (s : PlaceState) (w : Seated) : Type 0 where
  pub newer : List Entry
  pub entry : Entry
  pub journal : (turn i s w).place.journal ≡ newer ++ entry ∷ s.journal
  pub clock : entry.clock ≡ (turn i s w).first
  pub made : All (IsMadeBy s.number w.seat) (newer ++ entry ∷ [])
  pub layout : (turn i s w).place.layout ≡ s.layout
  pub number : (turn i s w).place.number ≡ s.number
  pub seat : (turn i s w).caller.seat ≡ w.seat
  pub actor : (turn i s w).caller.actor ≡ w.actor

abbrev pub TurnsAppendEntries : Type 0
TurnsAppendEntries =
    (l : Layout) (p : ℕ) (i : Input Command Packet) (s : PlaceState) (w : Seated) → may_take l p i s w ≡ true →
    Appends i s w

-- each clock is above all those behind it
abbrev pub ClocksFall : List Entry → Type 0
ClocksFall [] = Unit {0}
ClocksFall (e ∷ es) = All (λ (f : Entry). f.clock < e.clock) es × ClocksFall es

-- so in the journal of a place after its turns
abbrev pub JournalsFall : Type 0
JournalsFall =
    (l : Layout) (p : ℕ) (ts : List (Turn Seated Command Packet)) (s : PlaceState) →
    Takes (machine l) p (started l p) ts s → ClocksFall s.journal

-- a turn appends entries with clocks above all of the place and above its caller's last one, which is then that of the
-- place's last entry
pub record Climbs (i : Input Command Packet) (s : PlaceState) (w : Seated) : Type 0 where
  pub falls : ClocksFall s.journal → ClocksFall (turn i s w).place.journal
  pub last : (turn i s w).caller.last ≡ last_clock (turn i s w).place.journal

abbrev pub TurnsClimb : Type 0
TurnsClimb =
    (l : Layout) (p : ℕ) (i : Input Command Packet) (s : PlaceState) (w : Seated) → may_take l p i s w ≡ true →
    Climbs i s w
