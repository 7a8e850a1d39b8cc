-- The calls of sites on one thread, as events of the network machine, and the clocks that they compare.
-- n is a network, l a layout, a and b are numbers of places.
use Rattle.std.specs.Prelude.{ℕ, List, Option, Some, None, slice_get}
use Rattle.std.specs.Option.{option_map}
use Rattle.chorus_ui.specs.declared.kind.Kind.TheVariants as kinds
use Rattle.chorus_ui.specs.declared.ui.Ui.{Ui}
use Rattle.chorus_ui.specs.declared.layout.Layout.{Layout}
use Rattle.chorus_entry.specs.declared.command.Command.{Command}
use Rattle.chorus_entry.specs.declared.packet.Packet.{Packet}
use Rattle.chorus_calls.specs.Callers.{Seated}
use Rattle.law_machine.specs.PlaceState.{greatest_clock}
use Rattle.law_machine.specs.PlaceMachine.{begun_by}
use Rattle.law_network.specs.Packets.{first_on}
use Rattle.law_network.specs.Network.{NetState, Event, Enter, Deliver, opening, happened, place, turn_for, rounds}

-- the actor of seat 0
abbrev pub first_actor : Ui
first_actor = record { site = 1; kind = kinds.Actor; number = 1 }

-- sites that were just started: seat 0 has come, and nothing happened besides
abbrev pub starting : Event
starting = Enter first_actor 0

abbrev pub just_started : Layout → NetState
just_started l = happened starting (opening l)

-- the last clock of a caller, if there is one
abbrev pub last_of : Option Seated → ℕ
last_of None = 0
last_of (Some caller) = caller.last

-- a further caller begins with the last clock of seat 0
abbrev pub entering : Ui → NetState → Event
entering actor n = Enter actor (last_of (slice_get n.callers 0))

-- seat 0 works off packets
abbrev pub delivering : ℕ → ℕ → Event
delivering a b = Deliver 0 a b

abbrev pub draining : Layout → ℕ → List Event
draining l count = rounds l 0 count

-- how many messages the seat posted
abbrev pub posts_of : NetState → ℕ → Option ℕ
posts_of n seat = option_map (λ (caller : Seated). caller.posts) (slice_get n.callers seat)

-- the greatest of the clocks that a command compares, and that a packet from a to b compares: its own too
abbrev pub compared_with : Command → Option Seated → NetState → ℕ
compared_with command None n = 0
compared_with command (Some caller) n = greatest_clock (turn_for command caller n)

abbrev pub compared : ℕ → Command → NetState → ℕ
compared seat command n = compared_with command (slice_get n.callers seat) n

abbrev pub compared_on : ℕ → Option Seated → Option Packet → NetState → Option ℕ
compared_on b None packet n = None
compared_on b (Some caller) None n = None
compared_on b (Some caller) (Some packet) n = Some (greatest_clock (begun_by (place b n) caller packet))

abbrev pub compared_at : ℕ → ℕ → ℕ → NetState → Option ℕ
compared_at seat a b n = compared_on b (slice_get n.callers seat) (first_on a b n.packets) n
