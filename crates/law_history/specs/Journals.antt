-- Journals are a schedule: the turns that places took and callers were given, in one order, are a schedule of the
-- network machine. l is a layout, p, a and b are numbers of places, q is a seat, t a turn, n a network, ts are turns,
-- the first one first, and es are events, the latest first.
use Rattle.std.specs.Prelude.{ℕ, ◌≡◌, true, List, [], ◌∷◌, map, reverse, Option, Some, None, slice_get}
use Rattle.std.specs.List.{All, filter}
use Rattle.std.specs.Option.{option_map}
use Rattle.chorus_ui.specs.declared.ui.Ui.{Ui}
use Rattle.chorus_ui.specs.declared.layout.Layout.{Layout}
use Rattle.chorus_ui.specs.Layout.{IsLayout, has_actor}
use Rattle.chorus_entry.specs.declared.command.Command.{Command}
use Rattle.chorus_entry.specs.declared.packet.Packet.{Packet}
use Rattle.chorus_ui.specs.NameKind.{is_actor}
use Rattle.chorus_calls.specs.Callers.{Seated, new_caller}
use Rattle.law_machine.specs.declared.outgoing.Outgoing.{Outgoing}
use Rattle.law_machine.specs.PlaceState.{PlaceState, started}
use Rattle.law_network.specs.Packets.{is_link}
use Rattle.law_network.specs.Network.{NetState, Event, Enter, Act, Deliver, See, place, schedule}
use Rattle.law_network.specs.Calls.{first_actor}
use Rattle.law_network.specs.Schedules.{may_be}
use Rattle.law_history.specs.Turns.{Input, Turn, is_at, is_by, IsInOrder}
use Rattle.law_history.specs.Network.{Network}
use Rattle.law_history.specs.Histories.{Histories}
use Rattle.law_history.specs.PlaceTurns.{machine}

-- a turn of a place, as it is noted
abbrev pub PlaceTurn : Type 0
PlaceTurn = Turn Seated Command Packet

-- Who comes: a caller in an actor, with any last clock.

pub record Comer : Type 0 where
  pub actor : Ui
  pub last : ℕ

-- in an actor of the layout
pub record IsComer (l : Layout) (c : Comer) : Type 0 where
  pub kind : is_actor c.actor ≡ true
  pub actor : has_actor l c.actor ≡ true

-- the new caller of a seat; a seat to which nobody came has one too, which is given no turn
abbrev pub new_from : ℕ → Option Comer → Seated
new_from q None = new_caller q first_actor 0
new_from q (Some c) = new_caller q c.actor c.last

-- nothing happened at any place, no packet was put, and each caller is new: seat k is that of the comer k
abbrev pub at_start : Layout → List Comer → Network PlaceState Seated Packet
at_start l comers =
    record { places = started l; links = λ a b. []; callers = λ q. new_from q (slice_get comers q) }

-- What places and callers did.

-- For a layout and those who came: of each place its turns in order, by the place machine from the started place, and
-- of each caller its turns in order, from the new caller of its seat. A turn with a command stands at the command's
-- place. Of each two places, what was put is what was worked off and then what is left on the link. All ends at
-- `closing`.
pub record AreHistories (l : Layout) (comers : List Comer) (places seats : ℕ → List (Turn Seated Command Packet))
    (closing : Network PlaceState Seated Packet) : Type 0 where
  pub came : All (IsComer l) comers
  pub histories : Histories (machine l) (at_start l comers) places seats closing
  pub no_caller : (q : ℕ) → slice_get comers q ≡ None → seats q ≡ []

-- The schedule: all come, and then the turns happen in their order; before each its caller sees up to its last clock.

abbrev pub coming : Comer → Event
coming c = Enter c.actor c.last

abbrev pub event_with : ℕ → ℕ → Input Command Packet → Event
event_with p q (Input.Command c) = Act q c
event_with p q (Input.Packet a k) = Deliver q a p

abbrev pub event_of : PlaceTurn → Event
event_of t = event_with t.place t.seat t.input

-- the events of the turns, behind older ones
abbrev pub events_after : List PlaceTurn → List Event → List Event
events_after [] es = es
events_after (t ∷ ts) es = events_after ts (event_of t ∷ See t.seat t.before.last ∷ es)

abbrev pub events : List Comer → List PlaceTurn → List Event
events comers ts = events_after ts (reverse (map coming comers))

-- the packets from a to b, in the order in which they were put
abbrev pub on_link : ℕ → ℕ → NetState → List Packet
on_link a b n = map (λ (o : Outgoing). o.packet) (filter (is_link a b) n.packets)

-- the network is what places, links and callers are at the end
pub record EndsAs (comers : List Comer) (closing : Network PlaceState Seated Packet) (n : NetState) : Type 0 where
  pub places : (p : ℕ) → place p n ≡ closing.places p
  pub links : (a b : ℕ) → on_link a b n ≡ closing.links a b
  pub callers : (q : ℕ) → slice_get n.callers q ≡ option_map (λ (c : Comer). closing.callers q) (slice_get comers q)

-- The turns of all places in one order, by the clock of the first entry and by place: they are each place's and each
-- caller's turns in their order, each may happen when it comes, and they leave just these places, links and callers.
pub record IsTheirSchedule (l : Layout) (comers : List Comer) (places seats : ℕ → List (Turn Seated Command Packet))
    (closing : Network PlaceState Seated Packet) (ts : List (Turn Seated Command Packet)) : Type 0 where
  pub sorted : IsInOrder ts
  pub by_place : (p : ℕ) → filter (is_at p) ts ≡ places p
  pub by_seat : (q : ℕ) → filter (is_by q) ts ≡ seats q
  pub may : may_be l (events comers ts) ≡ true
  pub ends : EndsAs comers closing (schedule l (events comers ts))

abbrev pub JournalsAreASchedule : Type 0
JournalsAreASchedule =
    (l : Layout) (comers : List Comer) (places seats : ℕ → List PlaceTurn)
    (closing : Network PlaceState Seated Packet) → IsLayout l →
    AreHistories l comers places seats closing →
    (ts : List PlaceTurn) × IsTheirSchedule l comers places seats closing ts
