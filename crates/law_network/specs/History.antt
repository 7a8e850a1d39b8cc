-- The entries and the packets of a schedule in the order in which they came: the entries are the past that its network
-- stands for. n is a network, l a layout, a and b are numbers of places, e is an event and es are events, the latest
-- first.
use Rattle.std.specs.Prelude.{ℕ, ◌≡◌, ◌-◌, true, List, [], ◌∷◌, ◌++◌, length, take, Option, Some, None, slice_get}
use Rattle.chorus_ui.specs.declared.layout.Layout.{Layout}
use Rattle.chorus_ui.specs.Layout.{IsLayout}
use Rattle.chorus_entry.specs.declared.entry.Entry.{Entry}
use Rattle.chorus_entry.specs.declared.command.Command.{Command}
use Rattle.chorus_entry.specs.declared.packet.Packet.{Packet}
use Rattle.chorus_calls.specs.Callers.{Seated}
use Rattle.law_machine.specs.declared.outgoing.Outgoing.{Outgoing}
use Rattle.law_machine.specs.PlaceState.{Turn}
use Rattle.law_machine.specs.PlaceMachine.{begun_by, act, work}
use Rattle.law_network.specs.Packets.{first_on}
use Rattle.law_network.specs.Network.{NetState, Event, Enter, Act, Deliver, See, place, turn_for, happened, schedule}
use Rattle.law_network.specs.Schedules.{may_happen, OfSchedules}
use Rattle.law_network.specs.Stands.{Stands}
use Rattle.law_network.specs.Ready.{IsReady}

-- a turn as it began and as it ended
pub record Taken : Type 0 where
  pub first : Turn
  pub last : Turn

abbrev pub taken_with : Command → Option Seated → NetState → Option Taken
taken_with command None n = None
taken_with command (Some caller) n =
    let t = turn_for command caller n in Some (record { first = t; last = act command t })

abbrev pub taken_on : ℕ → Seated → Option Packet → NetState → Option Taken
taken_on b caller None n = None
taken_on b caller (Some packet) n =
    let t = begun_by (place b n) caller packet in Some (record { first = t; last = work packet t })

abbrev pub taken_at : ℕ → ℕ → Option Seated → NetState → Option Taken
taken_at a b None n = None
taken_at a b (Some caller) n = taken_on b caller (first_on a b n.packets) n

-- the turn that an event takes
abbrev pub taken_by : Event → NetState → Option Taken
taken_by (Enter actor last) n = None
taken_by (Act seat command) n = taken_with command (slice_get n.callers seat) n
taken_by (Deliver seat a b) n = taken_at a b (slice_get n.callers seat) n
taken_by (See seat clock) n = None

-- what a list has before the end that it shares with an older one
abbrev pub newer : List Entry → List Entry → List Entry
newer older whole = take (length whole - length older) whole

-- the entries of a turn, the newest first, and the packets that it put
abbrev pub said_in : Option Taken → List Entry
said_in None = []
said_in (Some taken) = newer taken.first.place.journal taken.last.place.journal

abbrev pub put_in : Option Taken → List Outgoing
put_in None = []
put_in (Some taken) = taken.last.puts

-- of an event
abbrev pub said_by : Event → NetState → List Entry
said_by e n = said_in (taken_by e n)

abbrev pub put_by : Event → NetState → List Outgoing
put_by e n = put_in (taken_by e n)

-- and of a schedule
abbrev pub history : Layout → List Event → List Entry
history l [] = []
history l (e ∷ es) = said_by e (schedule l es) ++ history l es

abbrev pub all_put : Layout → List Event → List Outgoing
all_put l [] = []
all_put l (e ∷ es) = all_put l es ++ put_by e (schedule l es)

-- what an event adds to a past that a network stands for: new entries, in front of it
abbrev pub EventsStand : Type 0
EventsStand =
    (n : NetState) (past : List Entry) (e : Event) → IsLayout n.layout → may_happen e n ≡ true → Stands n past →
    IsReady n past →
    (newer : List Entry) × (Stands (happened e n) (newer ++ past) × IsReady (happened e n) (newer ++ past))

-- so each schedule's network stands for its history
abbrev pub StandsInOrder : Layout → List Event → NetState → Type 0
StandsInOrder l es n = Stands n (history l es) × IsReady n (history l es)

abbrev pub SchedulesStandInOrder : Type 0
SchedulesStandInOrder = OfSchedules StandsInOrder
