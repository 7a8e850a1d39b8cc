-- Causes: which entry put the packet that an entry works off. A past has its newest entry first.
-- e is an entry, x the id of a message, q a port, a an act.
use Rattle.std.specs.Prelude.{◌==◌, Bool, if◌then◌else◌, List, [], ◌∷◌, length, Option, Some, None}
use Rattle.chorus_ui.specs.declared.ui.Ui.{Ui}
use Rattle.chorus_entry.specs.declared.entry.Entry.{Entry}
use Rattle.chorus_entry.specs.declared.id.MsgId.{MsgId}
use Rattle.chorus_entry.specs.declared.act.Act.{Act}
use Rattle.chorus_entry.specs.declared.act.Act.TheVariants.{Arrive, Told, Heard, Choose, NoMember}
use Rattle.chorus_entry.specs.Act.{message_of}
use Rattle.chorus_world.specs.Views.{is_about, is_on}
use Rattle.law_picture.specs.declared.row.Row.{Row}
use Rattle.law_picture.specs.declared.row.PacketKind.{PacketKind}
use Rattle.law_picture.specs.declared.row.PacketKind.TheVariants.{Try, Verdict, Transfer, Ask, Report}

-- where an entry behind these stands
abbrev pub row_of : List Entry → Entry → Row
row_of past e = record { number = length past; place = e.place; clock = e.clock }

-- where the newest entry stands that passes the test
abbrev pub latest : (Entry → Bool) → List Entry → Option Row
latest test [] = None
latest test (e ∷ past) = if test e then Some (row_of past e) else latest test past

-- An entry goes on where another one ended: an Arrive where the port departed, any other one where its message was
-- left.

abbrev pub port_arrived : Act → Option Ui
port_arrived (Arrive q hop) = Some q
port_arrived _ = None

abbrev pub goes_on_by : Option Ui → Option MsgId → Entry → Bool
goes_on_by (Some q) x = is_on (Some q)
goes_on_by None x = is_about x

abbrev pub goes_on : Act → Entry → Bool
goes_on a = goes_on_by (port_arrived a) (message_of a)

-- Where that is another place, a packet came from there.
abbrev pub from_elsewhere : Entry → Option Row → Option Row
from_elsewhere e None = None
from_elsewhere e (Some r) = if r.place == e.place then None else Some r

abbrev pub caused_by : List Entry → Entry → Option Row
caused_by past e = from_elsewhere e (latest (goes_on e.act) past)

-- what the packet was that the entry works off, where one came
abbrev pub packet_of : Act → PacketKind
packet_of (Arrive q hop) = Transfer
packet_of (Told x answer) = Verdict
packet_of (Heard x answer) = Report
packet_of (Choose x g qs) = Ask
packet_of (NoMember x g) = Ask
packet_of a = Try
