-- Short names for worked examples.
use Rattle.std.specs.Prelude.{ℕ, List, [], ◌∷◌, ◌++◌, reverse, Option, None, option_to_list}
use Rattle.chorus_ui.specs.declared.ui.Ui.{Ui}
use Rattle.chorus_ui.specs.declared.kind.Kind.TheVariants as kinds
use Rattle.chorus_entry.specs.declared.entry.Entry.{Entry}
use Rattle.chorus_entry.specs.declared.id.MsgId.{MsgId}
use Rattle.chorus_entry.specs.declared.tag.Tag.{Tag}
use Rattle.chorus_entry.specs.declared.message.Message.{Message}
use Rattle.chorus_entry.specs.declared.record.PortRecord.{PortRecord}
use Rattle.chorus_entry.specs.declared.act.Act.{Act}
use Rattle.chorus_entry.specs.declared.packet.Cargo.{Cargo}
use Rattle.law_machine.specs.declared.outgoing.Outgoing.{Outgoing}
use Rattle.law_network.specs.declared.placed.Placed.{Placed}
use Rattle.law_machine.specs.declared.reply.Reply.{Reply}
use Rattle.law_network.specs.Network.{NetState, Event, Enter, Act as Acts, Deliver, See, opening, happened, schedule, replied}

-- by site and number
abbrev pub actor : ℕ → ℕ → Ui
actor site number = record { site = site; kind = kinds.Actor; number = number }

abbrev pub port : ℕ → ℕ → Ui
port site number = record { site = site; kind = kinds.Port; number = number }

abbrev pub group : ℕ → ℕ → Ui
group site number = record { site = site; kind = kinds.Group; number = number }

abbrev pub msg : ℕ → ℕ → ℕ → MsgId
msg seat number copy = record { seat = seat; number = number; copy = copy }

abbrev pub mess : MsgId → Tag → List ℕ → Message
mess id tag body = record { id = id; tag = tag; body = body }

abbrev pub entry : ℕ → ℕ → ℕ → Act → Entry
entry clock place seat act = record { clock = clock; place = place; seat = seat; act = act }

abbrev pub rec : Ui → Ui → ℕ → ℕ → ℕ → List Message → List (ℕ × ℕ) → PortRecord
rec ui actor capacity hop first pending clients =
    record { ui = ui; actor = actor; capacity = capacity; hop = hop; first = first; pending = pending; clients = clients }

abbrev pub going : ℕ → ℕ → ℕ → Cargo → Outgoing
going from to clock cargo = record { to = to; packet = record { clock = clock; from = from; cargo = cargo } }

abbrev pub held : ℕ → PortRecord → Placed
held place port = record { place = place; port = port }

-- what the events leave, the first of them first, on so many sites of so many places
abbrev pub ran : ℕ → ℕ → List Event → NetState
ran sites turns events = schedule (record { sites = sites; turns = turns }) (reverse events)

-- the replies to the commands among them, in order
abbrev pub reply_at : Event → NetState → Option Reply
reply_at (Enter actor last) n = None
reply_at (Acts seat command) n = replied seat command n
reply_at (Deliver seat from to) n = None
reply_at (See seat clock) n = None

abbrev pub replies_from : NetState → List Event → List Reply
replies_from n [] = []
replies_from n (event ∷ events) = option_to_list (reply_at event n) ++ replies_from (happened event n) events

abbrev pub replies : ℕ → ℕ → List Event → List Reply
replies sites turns events = replies_from (opening (record { sites = sites; turns = turns })) events
