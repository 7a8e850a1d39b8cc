-- Two events that may both come next, at two places and of two seats: neighbours that may change places.
-- l is a layout, n a network, k a seat, a and b are numbers of places, e and f are events.
use Rattle.std.specs.Prelude.{ℕ, ◌≡◌, ◌==◌, Bool, true, false, ◌&&◌, not, List, Option, Some, None, is_some, slice_get}
use Rattle.chorus_ui.specs.declared.ui.Ui.{Ui}
use Rattle.chorus_ui.specs.declared.layout.Layout.{Layout}
use Rattle.chorus_entry.specs.declared.command.Command.{Command}
use Rattle.chorus_entry.specs.Places.{place_for}
use Rattle.law_machine.specs.declared.outgoing.Outgoing.{Outgoing}
use Rattle.law_network.specs.Packets.{AreByLink, first_on}
use Rattle.law_network.specs.Network.{NetState, Event, Enter, Act, Deliver, See, happened}
use Rattle.law_network.specs.Stands.{actor_of}

-- whose event it is; entering is not asked
abbrev pub seat_of : Event → ℕ
seat_of (Enter actor last) = 0
seat_of (See seat clock) = seat
seat_of (Act k c) = k
seat_of (Deliver k a b) = k

-- at which place the turn is
abbrev pub command_place : Layout → Command → Option Ui → ℕ
command_place l c None = 0
command_place l c (Some actor) = place_for l actor c

abbrev pub place_of : Layout → (ℕ → Option Ui) → Event → ℕ
place_of l actors (Enter actor last) = 0
place_of l actors (See seat clock) = 0
place_of l actors (Act k c) = command_place l c (actors k)
place_of l actors (Deliver k a b) = b

-- two seats, at two places: this changes with nothing that happens
abbrev pub are_apart : Layout → (ℕ → Option Ui) → Event → Event → Bool
are_apart l actors e f = not (seat_of e == seat_of f) && not (place_of l actors e == place_of l actors f)

-- the caller is there, and so is the packet of a delivery; a caller that enters or sees an entry is none of these events
abbrev pub has_packet : Event → List Outgoing → Bool
has_packet (Enter actor last) us = false
has_packet (See seat clock) us = false
has_packet (Act k c) us = true
has_packet (Deliver k a b) us = is_some (first_on a b us)

abbrev pub is_ready : Event → NetState → Bool
is_ready e n = is_some (slice_get n.callers (seat_of e)) && has_packet e n.packets

-- both may come, and they are apart: neither waits for the other, though the one may put behind a packet that the other
-- takes
pub record AreNeighbours (e f : Event) (n : NetState) : Type 0 where
  pub one : is_ready e n ≡ true
  pub other : is_ready f n ≡ true
  pub apart : are_apart n.layout (actor_of n) e f ≡ true

-- Either order leaves one network, and each may come behind the other.
abbrev pub NeighboursCommute : Type 0
NeighboursCommute =
    (n : NetState) (e f : Event) → AreByLink n.packets → AreNeighbours e f n →
    happened e (happened f n) ≡ happened f (happened e n)

abbrev pub NeighboursStay : Type 0
NeighboursStay =
    (n : NetState) (e f : Event) → AreByLink n.packets → AreNeighbours e f n → is_ready e (happened f n) ≡ true
