-- What is read of a past that is written out: computed.
-- Seat 1 calls the port of seat 2 and leaves a message in it, seat 2 takes the request and replies, and seat 1 takes the reply, which ends its call; a
-- second reply comes too late. Then seat 2 sends its port to the other site, where it did not arrive.
use Rattle.std.proofs.Common.{ℕ, ◌≡◌, true, false, List, [], ◌∷◌, Some, None, refl}
use Rattle.chorus_ui.specs.declared.kind.Kind.TheVariants as kinds
use Rattle.chorus_ui.specs.declared.layout.Layout.{Layout}
use Rattle.chorus_ui.specs.declared.ui.Ui.{Ui}
use Rattle.chorus_entry.specs.declared.act.Act.{Act}
use Rattle.chorus_entry.specs.declared.act.Act.TheVariants as acts
use Rattle.chorus_entry.specs.declared.answer.Answer.TheVariants as answers
use Rattle.chorus_entry.specs.declared.command.Command.{Command}
use Rattle.chorus_entry.specs.declared.command.Command.TheVariants as commands
use Rattle.chorus_entry.specs.declared.dest.Dest.TheVariants as dests
use Rattle.chorus_entry.specs.declared.entry.Entry.{Entry}
use Rattle.chorus_entry.specs.declared.id.MsgId.{MsgId}
use Rattle.chorus_entry.specs.declared.message.Message.{Message}
use Rattle.chorus_entry.specs.declared.packet.Cargo.TheVariants as cargos
use Rattle.chorus_entry.specs.declared.packet.Packet.{Packet}
use Rattle.chorus_entry.specs.declared.record.PortRecord.{PortRecord}
use Rattle.chorus_entry.specs.declared.tag.Tag.{Tag}
use Rattle.chorus_entry.specs.declared.tag.Tag.TheVariants as tags
use Rattle.law_explore.specs.Outcome.{Accepted, Answered, Calls, Held, Holds, Judged, Moving, Next, Open, Settled, Stuck}
use Rattle.law_explore.specs.Races.{Order}
use Rattle.law_moments.specs.Answers.{told_as, told_of}
use Rattle.law_moments.specs.Read.{moment_read, outcome_read}

abbrev l : Layout
l = record { sites = 2; turns = 1 }

abbrev desk : Ui
desk = record { site = 1; kind = kinds.Port; number = 1 }

abbrev back : Ui
back = record { site = 1; kind = kinds.Port; number = 2 }

abbrev clerk : Ui
clerk = record { site = 1; kind = kinds.Actor; number = 1 }

abbrev away : Ui
away = record { site = 2; kind = kinds.Actor; number = 1 }

abbrev id : ℕ → ℕ → MsgId
id seat number = record { seat = seat; number = number; copy = 0 }

abbrev by : ℕ → ℕ → Act → Entry
by seat clock act = record { clock = clock; place = 1; seat = seat; act = act }

abbrev message : ℕ → ℕ → Tag → Message
message seat number tag = record { id = id seat number; tag = tag; body = [] }

abbrev asks : Act
asks = acts.Post (message 1 1 (tags.Request 1 back)) (dests.Port desk)

abbrev sends : Act
sends = acts.Post (message 1 2 tags.Plain) (dests.Port desk)

abbrev replies : Act
replies = acts.Post (message 2 1 (tags.Reply 1 1)) (dests.Port back)

abbrev made : List Entry
made = by 0 2 (acts.Make back clerk 2) ∷ by 0 1 (acts.Make desk clerk 2) ∷ []

abbrev asked : List Entry
asked = by 1 6 (acts.Accept (id 1 2) desk 1) ∷ by 1 5 sends ∷ by 1 4 (acts.Accept (id 1 1) desk 0) ∷ by 1 3 asks ∷ made

abbrev replied : List Entry
replied = by 2 9 (acts.Accept (id 2 1) back 0) ∷ by 2 8 replies ∷ by 2 7 (acts.Take desk 0 (id 1 1)) ∷ asked

abbrev past : List Entry
past = by 2 12 (acts.Depart desk 2 away 1) ∷ by 1 11 (acts.Done 1) ∷ by 1 10 (acts.Take back 0 (id 2 1)) ∷ replied

pub one : told_of 1 past ≡ told_as (acts.Take back 0 (id 2 1)) (Some (acts.Done 1)) ∷ told_as sends None ∷ told_as asks None ∷ []
one = refl

pub two : told_of 2 past ≡ told_as (acts.Depart desk 2 away 1) None ∷ told_as replies None ∷ told_as (acts.Take desk 0 (id 1 1)) None ∷ []
two = refl

-- what stands behind another own entry is of that one
pub late : told_of 1 (by 1 13 (acts.Late 1) ∷ by 1 12 (acts.Take back 1 (id 2 2)) ∷ by 1 11 (acts.Done 1) ∷ by 1 10 (acts.Take back 0 (id 2 1)) ∷ [])
    ≡ told_as (acts.Take back 1 (id 2 2)) (Some (acts.Late 1)) ∷ told_as (acts.Take back 0 (id 2 1)) (Some (acts.Done 1)) ∷ []
late = refl

abbrev moved : PortRecord
moved = record { ui = desk; actor = away; capacity = 2; hop = 1; first = 1; pending = message 1 2 tags.Plain ∷ []; clients = [] }

abbrev rest : List Packet
rest = record { clock = 12; from = 1; cargo = cargos.Transfer moved } ∷ []

abbrev now : Command → Order
now command = record { command = command; waits = false }

abbrev waits : Ui → Order
waits q = record { command = commands.Take q; waits = true }

abbrev scripts : List (List Order)
scripts =
    (now (commands.Call desk back []) ∷ now (commands.Send (dests.Port desk) []) ∷ waits back ∷ [])
    ∷ (waits desk ∷ now (commands.Reply []) ∷ now (commands.Move desk away) ∷ waits desk ∷ []) ∷ []

-- a moment: the port is under way, script 2 has a command left, and no call is outstanding
pub moment : moment_read l scripts past rest ≡
    Answered 1 1 asks ∷ Answered 1 2 sends ∷ Settled 1 3 (acts.Take back 0 (id 2 1)) (acts.Done 1)
    ∷ Answered 2 1 (acts.Take desk 0 (id 1 1)) ∷ Answered 2 2 replies ∷ Answered 2 3 (acts.Depart desk 2 away 0)
    ∷ Judged (id 1 1) (Some (answers.Accepted 0)) ∷ Judged (id 1 2) (Some (answers.Accepted 0)) ∷ Judged (id 2 1) (Some (answers.Accepted 0))
    ∷ Held back clerk [] ∷ Accepted desk (id 1 1 ∷ id 1 2 ∷ []) ∷ Accepted back (id 2 1 ∷ []) ∷ Moving desk away ∷ Next 2 4 ∷ []
moment = refl

-- before the reply was taken: the call is outstanding, the reply waits
pub before : moment_read l scripts replied [] ≡
    Answered 1 1 asks ∷ Answered 1 2 sends ∷ Answered 2 1 (acts.Take desk 0 (id 1 1)) ∷ Answered 2 2 replies
    ∷ Judged (id 1 1) (Some (answers.Accepted 0)) ∷ Judged (id 1 2) (Some (answers.Accepted 0)) ∷ Judged (id 2 1) (Some (answers.Accepted 0))
    ∷ Held desk clerk (id 1 2 ∷ []) ∷ Held back clerk (id 2 1 ∷ []) ∷ Accepted desk (id 1 1 ∷ id 1 2 ∷ []) ∷ Accepted back (id 2 1 ∷ [])
    ∷ Calls 1 1 ∷ Next 1 3 ∷ Next 2 3 ∷ []
before = refl

-- and when the request was taken, and the other message was posted only: that is open, the request is in hand
pub opened : moment_read l scripts (by 2 6 (acts.Take desk 0 (id 1 1)) ∷ by 1 5 sends ∷ by 1 4 (acts.Accept (id 1 1) desk 0) ∷ by 1 3 asks ∷ made) [] ≡
    Answered 1 1 asks ∷ Answered 1 2 sends ∷ Answered 2 1 (acts.Take desk 0 (id 1 1)) ∷ Judged (id 1 1) (Some (answers.Accepted 0)) ∷ Open (id 1 2)
    ∷ Held desk clerk [] ∷ Held back clerk [] ∷ Accepted desk (id 1 1 ∷ []) ∷ Accepted back [] ∷ Calls 1 1 ∷ Holds 2 1 1 ∷ Next 1 3 ∷ Next 2 2 ∷ []
opened = refl

-- as an outcome, both scripts are stuck there
pub outcome : outcome_read l scripts replied ≡
    Answered 1 1 asks ∷ Answered 1 2 sends ∷ Answered 2 1 (acts.Take desk 0 (id 1 1)) ∷ Answered 2 2 replies
    ∷ Judged (id 1 1) (Some (answers.Accepted 0)) ∷ Judged (id 1 2) (Some (answers.Accepted 0)) ∷ Judged (id 2 1) (Some (answers.Accepted 0))
    ∷ Held desk clerk (id 1 2 ∷ []) ∷ Held back clerk (id 2 1 ∷ []) ∷ Stuck 1 3 ∷ Stuck 2 3 ∷ []
outcome = refl
