-- The numbers and names that the types of a packet hold.
use Rattle.std.specs.Prelude.{ℕ, ◌<◌, ◌^◌, Option, Some, None}
use Rattle.std.specs.List.{AllByRecursion}
use Rattle.chorus_ui.specs.declared.ui.Ui.{Ui}
use Rattle.chorus_ui.specs.Name.{IsName}
use Rattle.chorus_entry.specs.declared.id.MsgId.{MsgId}
use Rattle.chorus_entry.specs.declared.tag.Tag.{Tag}
use Rattle.chorus_entry.specs.declared.tag.Tag.TheVariants.{Plain, Request, Reply}
use Rattle.chorus_entry.specs.declared.message.Message.{Message}
use Rattle.chorus_entry.specs.declared.dest.Dest.{Dest}
use Rattle.chorus_entry.specs.declared.dest.Dest.TheVariants as D
use Rattle.chorus_entry.specs.declared.record.PortRecord.{PortRecord}
use Rattle.chorus_entry.specs.declared.packet.Packet.{Packet}
use Rattle.chorus_entry.specs.declared.packet.Cargo.{Cargo}
use Rattle.chorus_entry.specs.declared.packet.Cargo.TheVariants.{Try, Verdict, Transfer, Ask, Report}

-- a number of a seat or a call
abbrev pub IsCount : ℕ → Type 0
IsCount n = n < 2 ^ 32

abbrev pub IsHeldId : MsgId → Type 0
IsHeldId id = IsCount id.seat × IsCount id.number

abbrev pub IsHeldTag : Tag → Type 0
IsHeldTag Plain = Unit {0}
IsHeldTag (Request call back) = IsCount call × IsName back
IsHeldTag (Reply client call) = IsCount client × IsCount call

abbrev pub IsHeldMessage : Message → Type 0
IsHeldMessage m = IsHeldId m.id × IsHeldTag m.tag

abbrev pub IsHeldRoute : Option Ui → Type 0
IsHeldRoute None = Unit {0}
IsHeldRoute (Some group) = IsName group

abbrev pub IsHeldClient : ℕ × ℕ → Type 0
IsHeldClient entry = IsCount entry.0 × IsCount entry.1

abbrev pub IsHeldRecord : PortRecord → Type 0
IsHeldRecord port = IsName port.ui × IsName port.actor × AllByRecursion IsHeldMessage port.pending ×
    AllByRecursion IsHeldClient port.clients

-- a post to a port is not asked for
abbrev pub IsHeldDest : Dest → Type 0
IsHeldDest (D.Port port) = Unit {0}
IsHeldDest (D.All group) = IsName group
IsHeldDest (D.One group) = IsName group
IsHeldDest (D.OneAt group site) = IsName group

abbrev pub IsHeldCargo : Cargo → Type 0
IsHeldCargo (Try message port route only hop) = IsHeldRoute route × IsName port × IsHeldMessage message
IsHeldCargo (Verdict id port route answer) = IsHeldId id × IsName port × IsHeldRoute route
IsHeldCargo (Transfer port) = IsHeldRecord port
IsHeldCargo (Ask message dest) = IsHeldDest dest × IsHeldMessage message
IsHeldCargo (Report id answer) = IsHeldId id

-- each packet of the program is one of these; what its ranges bound further is not said again
abbrev pub IsHeld : Packet → Type 0
IsHeld packet = (packet.clock < 2 ^ 64) × IsHeldCargo packet.cargo
