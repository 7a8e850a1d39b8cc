-- What is left of a network when it is closed: the journals, the packets, and the records of the ports held.
-- n is a network, s a place, o a packet with the place that it goes to.
use Rattle.std.specs.Prelude.{ℕ, List, [], ◌∷◌, ◌++◌, map, reverse}
use Rattle.chorus_entry.specs.declared.entry.Entry.{Entry}
use Rattle.chorus_entry.specs.declared.packet.Packet.{Packet}
use Rattle.chorus_entry.specs.declared.record.PortRecord.{PortRecord}
use Rattle.chorus_merge.specs.Merge.{merged}
use Rattle.law_machine.specs.declared.outgoing.Outgoing.{Outgoing}
use Rattle.law_machine.specs.PlaceState.{PlaceState}
use Rattle.law_network.specs.declared.placed.Placed.{Placed}
use Rattle.law_network.specs.Network.{NetState}

-- the journals by place, each with its oldest entry first
abbrev pub journals : NetState → List (List Entry)
journals n = map (λ (s : PlaceState). reverse s.journal) n.places

-- the packets that were put and not worked off
abbrev pub packets_left : NetState → List Packet
packets_left n = map (λ (o : Outgoing). o.packet) n.packets

-- the records by place, then in table order
abbrev pub placed_at : ℕ → List PortRecord → List Placed
placed_at p ports = map (λ (port : PortRecord). record { place = p; port = port }) ports

abbrev pub placed_in : List PlaceState → List Placed
placed_in [] = []
placed_in (s ∷ ss) = placed_at s.number s.ports ++ placed_in ss

abbrev pub placed : NetState → List Placed
placed n = placed_in n.places

-- the merge of the journals, and the same with its newest entry first
abbrev pub merge : NetState → List Entry
merge n = merged (journals n)

abbrev pub merged_past : NetState → List Entry
merged_past n = reverse (merge n)
