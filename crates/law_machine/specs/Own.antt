-- A command's own act: the act of its first entry, which answers it. The refusals stand in the order in which they are
-- tested. s is the place, t the turn, q a port, g a group; `port` is the record of a port.
use Rattle.std.specs.Prelude.{ℕ, ◌+◌, ◌==◌, not, if◌then◌else◌, List, map, Option, Some, None}
use Rattle.chorus_ui.specs.declared.kind.Kind.TheVariants as kinds
use Rattle.chorus_ui.specs.declared.ui.Ui.{Ui}
use Rattle.chorus_ui.specs.Name.{same_ui}
use Rattle.chorus_ui.specs.Layout.{has_actor, place_at, site_of}
use Rattle.chorus_entry.specs.declared.hand.Hand.{Hand}
use Rattle.chorus_entry.specs.declared.tag.Tag.{Tag}
use Rattle.chorus_entry.specs.declared.dest.Dest.{Dest}
use Rattle.chorus_entry.specs.declared.message.Message.{Message}
use Rattle.chorus_entry.specs.declared.command.Command.{Command}
use Rattle.chorus_entry.specs.declared.act.Act.{Act}
use Rattle.chorus_entry.specs.declared.record.PortRecord.{PortRecord}
use Rattle.chorus_world.specs.Groups.{groups_made}
use Rattle.chorus_world.specs.Steps.{next_number}
use Rattle.chorus_world.specs.Answer.{make_for, group_for, join_for, leave_for}
use Rattle.chorus_ports.specs.declared.taking.Taken.{Taken}
use Rattle.chorus_ports.specs.declared.taking.Taken.TheVariants as takes
use Rattle.chorus_ports.specs.Table.{find}
use Rattle.chorus_ports.specs.Taking.{taken}
use Rattle.chorus_calls.specs.Clients.{Call}
use Rattle.chorus_calls.specs.Callers.{Seated}
use Rattle.law_machine.specs.PlaceState.{PlaceState, Turn}

-- Making a port, or a group.

-- the name of the next port that the place makes, for an actor of its site
abbrev pub next_port : PlaceState → Ui → Ui
next_port s actor = record { site = actor.site; kind = kinds.Port; number = next_number s.layout s.number s.journal }

-- the name of the next group of a site, whose first place this is
abbrev pub next_group : PlaceState → ℕ → Ui
next_group s site = record { site = site; kind = kinds.Group; number = groups_made s.journal + 1 }

-- Receiving, moving and deleting, where the caller's actor holds the port here.

abbrev pub take_act : Ui → Taken → Act
take_act q (takes.Message position m) = Act.Take q position m.id
take_act q takes.Empty = Act.Empty q
take_act q takes.NotHere = Act.NotHere q

-- the record, where the actor holds the port
abbrev pub held_by : Ui → Option PortRecord → Option PortRecord
held_by actor None = None
held_by actor (Some port) = if same_ui port.actor actor then Some port else None

abbrev pub move_act : Ui → Ui → PlaceState → Option PortRecord → Act
move_act q actor s None = Act.NotHere q
move_act q actor s (Some port) =
    if not (has_actor s.layout actor) then Act.NoActor actor
    else if actor.site == site_of s.layout s.number then Act.Rehome q actor
    else Act.Depart q (place_at s.layout actor.site q) actor (port.hop + 1)

abbrev pub delete_act : Ui → Option PortRecord → Act
delete_act q None = Act.NotHere q
delete_act q (Some port) = Act.Delete q (map (λ (m : Message). m.id) port.pending)

-- Posting.

-- the caller's next message
abbrev pub next_message : Tag → List ℕ → Seated → Message
next_message tag body caller =
    record { id = record { seat = caller.seat; number = caller.posts + 1; copy = 0 }; tag = tag; body = body }

-- a call posts a request with the caller's next number, unless a call is outstanding
abbrev pub call_act : Ui → Ui → List ℕ → Seated → Option Call → Act
call_act q back body caller None =
    Act.Post (next_message (Tag.Request (caller.client.given + 1) back) body caller) (Dest.Port q)
call_act q back body caller (Some call) = Act.Outstanding call.number

-- a retry posts the outstanding call again
abbrev pub retry_act : Seated → Option Call → Act
retry_act caller None = Act.NoCall
retry_act caller (Some call) =
    Act.Post (next_message (Tag.Request call.number call.back) call.body caller) (Dest.Port call.port)

abbrev pub cancel_act : Option Call → Act
cancel_act None = Act.NoCall
cancel_act (Some call) = Act.Cancel call.number

-- a reply goes to the reply port of the request in hand
abbrev pub reply_act : List ℕ → Seated → Option Hand → Act
reply_act body caller None = Act.NoRequest
reply_act body caller (Some hand) =
    Act.Post (next_message (Tag.Reply hand.client hand.number) body caller) (Dest.Port hand.back)

-- the act that answers the command
abbrev pub own : Command → Turn → Act
own (Command.Make actor capacity) t = make_for t.place.layout t.place.number t.place.journal actor capacity
own (Command.Send d body) t = Act.Post (next_message Tag.Plain body t.caller) d
own (Command.Call q back body) t = call_act q back body t.caller t.caller.client.outstanding
own Command.Retry t = retry_act t.caller t.caller.client.outstanding
own Command.Cancel t = cancel_act t.caller.client.outstanding
own (Command.Reply body) t = reply_act body t.caller t.caller.hand
own (Command.Take q) t = take_act q (taken t.caller.actor (find q t.place.ports))
own (Command.Move q actor) t = move_act q actor t.place (held_by t.caller.actor (find q t.place.ports))
own (Command.GroupMake site) t = group_for t.place.layout t.place.journal site
own (Command.Join g q) t = join_for t.place.journal g q
own (Command.Leave g q) t = leave_for t.place.journal g q
own (Command.Delete q) t = delete_act q (held_by t.caller.actor (find q t.place.ports))
