-- Replies in networks and in schedules: what a caller is told is what its turn appended, and what it receives was
-- posted. n is a network, es are events, the latest first, `older` those before the command and `later` those from
-- there on.
use Rattle.std.specs.Prelude.{ℕ, ◌≡◌, ◌↔◌, true, List, ◌++◌, Option, Some, is_some, slice_get}
use Rattle.chorus_ui.specs.declared.layout.Layout.{Layout}
use Rattle.chorus_ui.specs.Layout.{IsLayout}
use Rattle.chorus_entry.specs.declared.entry.Entry.{Entry}
use Rattle.chorus_entry.specs.declared.command.Command.{Command}
use Rattle.chorus_entry.specs.declared.message.Message.{Message}
use Rattle.chorus_calls.specs.declared.client.Settle.{Settle}
use Rattle.law_machine.specs.declared.reply.Reply.{Reply}
use Rattle.law_network.specs.Network.{NetState, Event, Act, replied, schedule}
use Rattle.law_network.specs.Schedules.{may_be, OfSchedules}
use Rattle.law_network.specs.Stands.{Stands}
use Rattle.law_network.specs.Ready.{IsReady}
use Rattle.law_network.specs.History.{said_by}
use Rattle.law_network.specs.Left.{merged_past}
use Rattle.law_replies.specs.Replies.{Tells}
use Rattle.law_replies.specs.AsPosted.{IsAsPosted}

-- the command of a seat to which somebody came gets the reply that the entries of its turn tell, and no other one; a
-- message that it receives is the one that was posted
abbrev pub IsToldSo : NetState → List Entry → Type 0
IsToldSo n past =
    (seat : ℕ) (command : Command) (r : Reply) → is_some (slice_get n.callers seat) ≡ true →
    (replied seat command n ≡ Some r) ↔ Tells (λ q m. IsAsPosted m past) (said_by (Act seat command) n) r

-- in each network that stands for a past and is ready
abbrev pub NetworksTell : Type 0
NetworksTell = (n : NetState) (past : List Entry) → Stands n past → IsReady n past → IsToldSo n past

-- and so in that of each schedule, for the merge of its journals
abbrev pub SchedulesTell : Type 0
SchedulesTell = OfSchedules (λ l es n. IsToldSo n (merged_past n))

-- a message that is received stands as posted in the merge of the journals, then and after whatever comes later
abbrev pub TakesArePosted : Type 0
TakesArePosted =
    (l : Layout) (later older : List Event) (seat : ℕ) (command : Command) (position : ℕ) (m : Message)
    (settled : Option Settle) → IsLayout l → may_be l (later ++ older) ≡ true →
    replied seat command (schedule l older) ≡ Some (Reply.Taken position m settled) →
    IsAsPosted m (merged_past (schedule l (later ++ older)))
