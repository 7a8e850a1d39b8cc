-- The network machine: a caller comes, gives a command, works off the first packet from one place to another, or sees an
-- entry, which raises its last clock.
-- n is a network, l a layout, p, a and b are numbers of places, s is a place, t a turn, es are events, the latest
-- first.
use Rattle.std.specs.Prelude.{ℕ, zero, suc, ◌+◌, ◌==◌, Bool, ◌&&◌, if◌then◌else◌, is_some, List, [], ◌∷◌, ◌++◌, length, reverse, map, Option, Some, None, slice_get, slice_set}
use Rattle.std.specs.Option.{option_map}
use Rattle.chorus_ui.specs.declared.ui.Ui.{Ui}
use Rattle.chorus_ui.specs.declared.layout.Layout.{Layout}
use Rattle.chorus_ui.specs.Layout as layout
use Rattle.chorus_entry.specs.declared.command.Command.{Command}
use Rattle.chorus_entry.specs.declared.packet.Packet.{Packet}
use Rattle.chorus_entry.specs.Places.{place_for}
use Rattle.chorus_calls.specs.Callers.{Seated, new_caller, raised}
use Rattle.law_machine.specs.declared.reply.Reply.{Reply}
use Rattle.law_machine.specs.declared.outgoing.Outgoing.{Outgoing}
use Rattle.law_machine.specs.PlaceState.{PlaceState, Turn, started}
use Rattle.law_machine.specs.PlaceMachine.{begun, begun_by, act, work}
use Rattle.law_machine.specs.Replies.{reply}
use Rattle.law_network.specs.declared.delivery.Delivered.{Delivered}
use Rattle.law_network.specs.Packets.{put_all, first_on, rest_on}

-- the places of a layout, by their numbers; the packets on their way; and the caller of each seat, from seat 0 on
pub record NetState : Type 0 where
  pub layout : Layout
  pub places : List PlaceState
  pub packets : List Outgoing
  pub callers : List Seated

-- so many numbers, from p on
abbrev pub numbers : ℕ → ℕ → List ℕ
numbers zero p = []
numbers (suc count) p = p ∷ numbers count (p + 1)

-- the numbers of the places of a layout
abbrev pub place_numbers : Layout → List ℕ
place_numbers l = numbers (layout.places l) 1

-- nothing happened yet, and nobody came
abbrev pub opening : Layout → NetState
opening l = record { layout = l; places = map (started l) (place_numbers l); packets = []; callers = [] }

-- the place of this number; one that the layout does not have is as it was started
abbrev pub place_in : Layout → ℕ → List PlaceState → PlaceState
place_in l p [] = started l p
place_in l p (s ∷ ss) = if s.number == p then s else place_in l p ss

abbrev pub place : ℕ → NetState → PlaceState
place p n = place_in n.layout p n.places

-- the places with s in place of the one of its number
abbrev pub with_place : PlaceState → List PlaceState → List PlaceState
with_place s [] = []
with_place s (r ∷ rs) = if r.number == s.number then s ∷ rs else r ∷ with_place s rs

-- the network after a turn of this seat: place and caller as the turn left them, and the packets with those that it put
abbrev pub ended : ℕ → Turn → NetState → NetState
ended seat t n =
    record n {
      places = with_place t.place n.places;
      packets = put_all t.puts n.packets;
      callers = slice_set n.callers seat t.caller;
    }

-- a new caller comes, with the next seat, in an actor, with any last clock
abbrev pub entered : Ui → ℕ → NetState → NetState
entered actor last n = record n { callers = n.callers ++ new_caller (length n.callers) actor last ∷ [] }

-- the turn of a caller with a command begins at the command's place
abbrev pub turn_for : Command → Seated → NetState → Turn
turn_for command caller n = begun (place (place_for n.layout caller.actor command) n) caller

abbrev pub commanded : ℕ → Command → Option Seated → NetState → NetState
commanded seat command None n = n
commanded seat command (Some caller) n = ended seat (act command (turn_for command caller n)) n

-- the reply to a command of the seat, if it was given to a caller
abbrev pub replied : ℕ → Command → NetState → Option Reply
replied seat command n =
    option_map (λ (caller : Seated). reply command (turn_for command caller n)) (slice_get n.callers seat)

-- a caller works off the packet, the first from a to b, at b
abbrev pub works_off : ℕ → ℕ → ℕ → Seated → Option Packet → NetState → NetState
works_off seat a b caller None n = n
works_off seat a b caller (Some packet) n =
    ended seat (work packet (begun_by (place b n) caller packet)) (record n { packets = rest_on a b n.packets })

abbrev pub delivered : ℕ → ℕ → ℕ → Option Seated → NetState → NetState
delivered seat a b None n = n
delivered seat a b (Some caller) n = works_off seat a b caller (first_on a b n.packets) n

-- what a delivery from a to b answers
abbrev pub delivery_of : Option Packet → Delivered
delivery_of None = Delivered.Nothing
delivery_of (Some packet) = Delivered.Served

abbrev pub delivery : ℕ → ℕ → NetState → Delivered
delivery a b n = delivery_of (first_on a b n.packets)

-- the caller of this seat has seen an entry with this clock
abbrev pub shown : ℕ → ℕ → Option Seated → NetState → NetState
shown seat clock None n = n
shown seat clock (Some caller) n = record n { callers = slice_set n.callers seat (raised clock caller) }

-- Events, and lists of them, the latest first.
pub data Event : Type 0 where
  Enter : (actor : Ui) (last : ℕ) → Event
  Act : (seat : ℕ) (command : Command) → Event
  Deliver : (seat from to : ℕ) → Event
  See : (seat clock : ℕ) → Event

abbrev pub happened : Event → NetState → NetState
happened (Enter actor last) n = entered actor last n
happened (Act seat command) n = commanded seat command (slice_get n.callers seat) n
happened (Deliver seat a b) n = delivered seat a b (slice_get n.callers seat) n
happened (See seat clock) n = shown seat clock (slice_get n.callers seat) n

abbrev pub after : List Event → NetState → NetState
after [] n = n
after (e ∷ es) n = happened e (after es n)

-- what a schedule makes of a layout
abbrev pub schedule : Layout → List Event → NetState
schedule l es = after es (opening l)

-- Draining, by one seat: in a round one delivery from each place to each other place.

-- the deliveries from a to each of these places, the first one first
abbrev pub from_one : ℕ → ℕ → List ℕ → List Event
from_one seat a [] = []
from_one seat a (b ∷ bs) = (if a == b then [] else Deliver seat a b ∷ []) ++ from_one seat a bs

-- and from each of the places
abbrev pub from_each : ℕ → List ℕ → List ℕ → List Event
from_each seat [] bs = []
from_each seat (a ∷ rest) bs = from_one seat a bs ++ from_each seat rest bs

-- a round, the latest delivery first
abbrev pub round : Layout → ℕ → List Event
round l seat = reverse (from_each seat (place_numbers l) (place_numbers l))

-- so many rounds
abbrev pub rounds : Layout → ℕ → ℕ → List Event
rounds l seat zero = []
rounds l seat (suc count) = round l seat ++ rounds l seat count

-- how many of the events worked a packet off; each other event counts as one, so that events of which none counts
-- change nothing
abbrev pub one_if : Bool → ℕ
one_if b = if b then 1 else 0

abbrev pub serves : Event → NetState → ℕ
serves (Enter actor last) n = 1
serves (Act seat command) n = 1
serves (See seat clock) n = 1
serves (Deliver seat a b) n = one_if (is_some (slice_get n.callers seat) && is_some (first_on a b n.packets))

abbrev pub served : List Event → NetState → ℕ
served [] n = 0
served (e ∷ es) n = serves e (after es n) + served es n

-- the network after rounds by this seat until no packet is left, and at most so many
abbrev pub drains_on : ℕ → (NetState → NetState) → List Outgoing → NetState → NetState
drains_on seat next [] n = n
drains_on seat next (o ∷ os) n = next (after (round n.layout seat) n)

abbrev pub drained : ℕ → ℕ → NetState → NetState
drained seat zero n = n
drained seat (suc most) n = drains_on seat (drained seat most) n.packets n
