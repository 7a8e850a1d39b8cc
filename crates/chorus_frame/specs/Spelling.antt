-- The one frame of each packet.
use Rattle.std.specs.Prelude.{ℕ, List, [], ◌++◌, length, Option, Some, None}
use Rattle.std.specs.List.{flat_map}
use Rattle.chorus_ui.specs.declared.ui.Ui.{Ui}
use Rattle.chorus_ui.specs.Bits.{name_bits}
use Rattle.chorus_entry.specs.declared.id.MsgId.{MsgId}
use Rattle.chorus_entry.specs.declared.tag.Tag.{Tag}
use Rattle.chorus_entry.specs.declared.tag.Tag.TheVariants.{Plain, Request, Reply}
use Rattle.chorus_entry.specs.declared.message.Message.{Message}
use Rattle.chorus_entry.specs.declared.answer.Answer.{Answer}
use Rattle.chorus_entry.specs.declared.answer.Answer.TheVariants as A
use Rattle.chorus_entry.specs.declared.dest.Dest.{Dest}
use Rattle.chorus_entry.specs.declared.dest.Dest.TheVariants as D
use Rattle.chorus_entry.specs.declared.record.PortRecord.{PortRecord}
use Rattle.chorus_entry.specs.declared.packet.Packet.{Packet}
use Rattle.chorus_entry.specs.declared.packet.Cargo.{Cargo}
use Rattle.chorus_entry.specs.declared.packet.Cargo.TheVariants.{Try, Verdict, Transfer, Ask, Report}
use Rattle.chorus_frame.specs.Numbers.{number}

-- a name is its 64 bits
abbrev pub name_field : Ui → List ℕ
name_field ui = number 8 (name_bits ui)

-- 0 where there is no route
abbrev pub route_field : Option Ui → List ℕ
route_field None = number 8 0
route_field (Some group) = name_field group

-- 0 where no site is demanded
abbrev pub only_field : Option ℕ → List ℕ
only_field None = number 2 0
only_field (Some site) = number 2 site

abbrev pub id_fields : MsgId → List ℕ
id_fields id = number 4 id.seat ++ number 4 id.number ++ number 2 id.copy

abbrev pub request_fields : ℕ → Ui → List ℕ
request_fields call back = number 4 call ++ name_field back

abbrev pub reply_fields : ℕ → ℕ → List ℕ
reply_fields client call = number 4 client ++ number 4 call

-- a code, and what goes with it
abbrev pub tag_fields : Tag → List ℕ
tag_fields Plain = number 1 0
tag_fields (Request call back) = number 1 1 ++ request_fields call back
tag_fields (Reply client call) = number 1 2 ++ reply_fields client call

-- how long it is, and its bytes
abbrev pub body_fields : List ℕ → List ℕ
body_fields body = number 2 (length body) ++ body

abbrev pub message_fields : Message → List ℕ
message_fields m = id_fields m.id ++ tag_fields m.tag ++ body_fields m.body

-- a place, and the hop by which a port went there
abbrev pub located_fields : ℕ → ℕ → List ℕ
located_fields to hop = number 2 to ++ number 8 hop

abbrev pub answer_fields : Answer → List ℕ
answer_fields (A.Accepted pos) = number 1 1 ++ number 8 pos
answer_fields (A.Full len) = number 1 2 ++ number 1 len
answer_fields (A.Stale to hop) = number 1 3 ++ located_fields to hop
answer_fields (A.Early hop) = number 1 4 ++ number 8 hop
answer_fields A.NoPort = number 1 5
answer_fields A.Already = number 1 6
answer_fields A.ClientsFull = number 1 7
answer_fields (A.Elsewhere to hop) = number 1 8 ++ located_fields to hop
answer_fields A.NoMember = number 1 9
answer_fields (A.Chosen count) = number 1 10 ++ number 2 count
answer_fields A.Gone = number 1 11

-- a client, and the greatest request number that was accepted from it
abbrev pub client_fields : ℕ × ℕ → List ℕ
client_fields entry = number 4 entry.0 ++ number 4 entry.1

-- how many there are, and each in turn
abbrev pub pending_fields : List Message → List ℕ
pending_fields messages = number 1 (length messages) ++ flat_map message_fields messages

abbrev pub clients_fields : List (ℕ × ℕ) → List ℕ
clients_fields clients = number 1 (length clients) ++ flat_map client_fields clients

abbrev pub record_fields : PortRecord → List ℕ
record_fields port =
    name_field port.ui ++ name_field port.actor ++ number 1 port.capacity ++ number 8 port.hop ++ number 8 port.first
    ++ pending_fields port.pending ++ clients_fields port.clients

-- the mode, the group, and the site that is demanded; a post to a port is not asked for, and has no mode
abbrev pub asked_fields : Dest → List ℕ
asked_fields (D.Port port) = []
asked_fields (D.All group) = number 1 1 ++ name_field group ++ number 2 0
asked_fields (D.One group) = number 1 2 ++ name_field group ++ number 2 0
asked_fields (D.OneAt group site) = number 1 3 ++ name_field group ++ number 2 site

-- its number, the first byte of the frame
abbrev pub kind_of : Cargo → ℕ
kind_of (Try message port route only hop) = 1
kind_of (Verdict id port route answer) = 2
kind_of (Transfer port) = 3
kind_of (Ask message dest) = 4
kind_of (Report id answer) = 5

abbrev pub cargo_fields : Cargo → List ℕ
cargo_fields (Try message port route only hop) =
    route_field route ++ only_field only ++ number 8 hop ++ name_field port ++ message_fields message
cargo_fields (Verdict id port route answer) =
    id_fields id ++ name_field port ++ route_field route ++ answer_fields answer
cargo_fields (Transfer port) = record_fields port
cargo_fields (Ask message dest) = asked_fields dest ++ message_fields message
cargo_fields (Report id answer) = id_fields id ++ answer_fields answer

-- the frame of the packet
abbrev pub frame : Packet → List ℕ
frame packet =
    number 1 (kind_of packet.cargo) ++ number 8 packet.clock ++ number 2 packet.from ++ cargo_fields packet.cargo
