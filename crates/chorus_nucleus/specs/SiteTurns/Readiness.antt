-- What one run of a job did that performs a take where it is answered by a message.
-- c is the take, w and x are the caller before and after, s is the place, d the desk before.
use Rattle.std.specs.Prelude.{◌≡◌, false, Option, Some, None, Result, Ok, Err}
use Rattle.std.specs.declared.snapshot.Snapshot.{Snapshot}
use Rattle.chorus_entry.specs.declared.command.Command.{Command}
use Rattle.chorus_calls.specs.Callers.{Seated}
use Rattle.law_awaits.specs.Awaits.{is_taken}
use Rattle.law_machine.specs.declared.reply.Reply.{Reply}
use Rattle.law_machine.specs.PlaceState.{PlaceState}
use Rattle.law_machine.specs.PlaceMachine.{begun}
use Rattle.law_machine.specs.Own.{own}
use Rattle.chorus_place.specs.Calls.{Place, state}
use Rattle.chorus_place.specs.declared.fault.PlaceFault.{PlaceFault}
use Rattle.chorus_serve.specs.Desks.{DeskState}
use Rattle.chorus_nucleus.specs.declared.taken_message.TakenMessage.{TakenMessage}
use Rattle.chorus_nucleus.specs.Answers.{reply_with}
use Rattle.chorus_nucleus.specs.SiteTurns.Jobs.{Acted, HasSeen}

-- the message that a reply hands out
abbrev pub message_in : Reply → Option TakenMessage
message_in (Reply.Taken position m settled) =
    Some (record { position = position; message = m; settled = settled; by_take = record {} })
message_in _ = None

-- the place gives this command of the caller no message
abbrev pub GivesNone : Command → PlaceState → Seated → Type 0
GivesNone c s w = is_taken (own c (begun s w)) ≡ false

-- Where a message was handed out, or a fault, the job did as one does that performs the command; else it looked.
abbrev pub TookOrLooked : Command → Option (Snapshot Place) → Result (Option TakenMessage) PlaceFault → Seated → Seated
    → DeskState → Type 0
TookOrLooked c took (Ok (Some m)) w x d = Acted c took (Ok (reply_with m)) w x d
TookOrLooked c took (Err f) w x d = Acted c took (Err f) w x d
TookOrLooked c None (Ok None) w x d = HasSeen d w x × GivesNone c (state d.place) w
TookOrLooked c (Some z) (Ok None) w x d = ⊥
