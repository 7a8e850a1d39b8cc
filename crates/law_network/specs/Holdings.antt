-- Where ports are: each at a place that holds it, or on its way in a Transfer. Records stand for a past where each port
-- that the past holds or moves is in one of them, as the past tells it, and no other port is in any.
-- q is a port, f what became of it, n a network, s a place, o a packet with the place that it goes to, l a layout. A
-- past has its newest entry first.
use Rattle.std.specs.Prelude.{ℕ, ◌≡◌, Bool, List, [], ◌∷◌, ◌++◌, map, Option, Some, None}
use Rattle.std.specs.List.{filter, flat_map}
use Rattle.chorus_ui.specs.declared.ui.Ui.{Ui}
use Rattle.chorus_ui.specs.declared.layout.Layout.{Layout}
use Rattle.chorus_ui.specs.Name.{same_ui}
use Rattle.chorus_ui.specs.Layout.{place_at}
use Rattle.chorus_entry.specs.declared.entry.Entry.{Entry}
use Rattle.chorus_entry.specs.declared.packet.Packet.{Packet}
use Rattle.chorus_entry.specs.declared.packet.Cargo.{Cargo}
use Rattle.chorus_entry.specs.declared.record.PortRecord.{PortRecord}
use Rattle.chorus_world.specs.declared.spot.Spot.{Spot}
use Rattle.chorus_world.specs.declared.spot.Spot.TheVariants as spots
use Rattle.chorus_world.specs.Views.{on}
use Rattle.chorus_world.specs.Ports.{PortState, fate, last_of}
use Rattle.law_machine.specs.declared.outgoing.Outgoing.{Outgoing}
use Rattle.law_machine.specs.PlaceState.{PlaceState}
use Rattle.law_network.specs.declared.placed.Placed.{Placed}
use Rattle.law_network.specs.Network.{NetState}
use Rattle.law_network.specs.Records.{record_for}
use Rattle.law_network.specs.UnderWay.{before_last}

pub data Holding : Type 0 where
  At : (place : ℕ) (port : PortRecord) → Holding
  OnTheWay : (from to : ℕ) (port : PortRecord) → Holding

abbrev pub record_in : Holding → PortRecord
record_in (At place port) = port
record_in (OnTheWay from to port) = port

-- the holding is of this port
abbrev pub holds : Ui → Holding → Bool
holds q holding = same_ui (record_in holding).ui q

-- what the past tells of a port: it is at the last place of its path, or on its way there from the place before, with
-- the record that the past tells; nothing where it is not made or was deleted
abbrev pub told_in : List Entry → Ui → PortState → Spot → List Holding
told_in past q f (spots.Held actor) = At (last_of 0 f.path) (record_for past (on q past) q actor f) ∷ []
told_in past q f (spots.Moving actor) =
    OnTheWay (before_last 0 0 f.path) (last_of 0 f.path) (record_for past (on q past) q actor f) ∷ []
told_in past q f spots.Ended = []

abbrev pub told_of : List Entry → Ui → Option PortState → List Holding
told_of past q None = []
told_of past q (Some f) = told_in past q f f.spot

abbrev pub holding_told : List Entry → Ui → List Holding
holding_told past q = told_of past q (fate (on q past))

pub record StandsFor (past : List Entry) (holdings : List Holding) : Type 0 where
  pub shown : (q : Ui) → filter (holds q) holdings ≡ holding_told past q

-- the records of a place
abbrev pub held_at : PlaceState → List Holding
held_at s = map (At s.number) s.ports

-- the record in a packet
abbrev pub moved_in : ℕ → ℕ → Cargo → List Holding
moved_in from to (Cargo.Transfer port) = OnTheWay from to port ∷ []
moved_in from to _ = []

abbrev pub moved_by : Outgoing → List Holding
moved_by o = moved_in o.packet.from o.to o.packet.cargo

-- those of a network
abbrev pub holdings_in : NetState → List Holding
holdings_in n = flat_map held_at n.places ++ flat_map moved_by n.packets

-- Those of a network that was closed. A packet does not name the place that it goes to: a Transfer goes to the place of
-- the port on the site of the actor that is to hold it.
abbrev pub moved_to : Layout → ℕ → Cargo → List Holding
moved_to l from (Cargo.Transfer port) = OnTheWay from (place_at l port.actor.site port.ui) port ∷ []
moved_to l from _ = []

abbrev pub moved_as : Layout → Packet → List Holding
moved_as l packet = moved_to l packet.from packet.cargo

abbrev pub held_as : Placed → Holding
held_as placed = At placed.place placed.port

abbrev pub holdings_left : Layout → List Placed → List Packet → List Holding
holdings_left l ports rest = map held_as ports ++ flat_map (moved_as l) rest
