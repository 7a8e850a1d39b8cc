-- The end of a turn: its packets wait for their places.
use Rattle.std.specs.Prelude.{◌<◌, List, [], ◌∷◌, length}
use Rattle.chorus_entry.specs.declared.packet.Packet.{Packet}
use Rattle.place_outbox.specs.Waiting.{Waiting, with_last}
use Rattle.law_machine.specs.declared.outgoing.Outgoing.{Outgoing}

-- with each of these packets behind the others for its place, one after the other
abbrev pub with_all : List Outgoing → List (List Packet) → List (List Packet)
with_all [] lists = lists
with_all (o ∷ os) lists = with_all os (with_last o.to o.packet lists)

-- there is a list for the place that it goes to
abbrev pub IsFor : Waiting → Outgoing → Type 0
IsFor out o = o.to < length out.lists
