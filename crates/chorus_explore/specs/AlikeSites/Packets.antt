-- Packets without their clocks.
use Rattle.std.specs.Prelude.{List, map}
use Rattle.chorus_entry.specs.declared.packet.Packet.{Packet}

abbrev pub plain : Packet → Packet
plain packet = record { clock = 0; from = packet.from; cargo = packet.cargo }

abbrev pub are_plain : List Packet → List Packet
are_plain packets = map plain packets
