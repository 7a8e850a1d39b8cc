-- A take that is made only where it is answered by a message: what its reply is, and what its job did.
-- q is a port, t a turn, o a port's record, w and x are the caller before and after, d is the desk before.
use Rattle.std.proofs.Common.{ℕ, ◌≡◌, ◌<◌, Bool, true, false, if◌then◌else◌, List, [], ◌∷◌, Option, Some, None, Ok, refl, sym, ◌∙◌, ap, subst}
use Rattle.std.specs.declared.snapshot.Snapshot.{Snapshot}
use Rattle.std.proofs.lemmas.Bool.{false≢true}
use Rattle.chorus_ui.specs.declared.ui.Ui.{Ui}
use Rattle.chorus_ui.specs.Name.{same_ui}
use Rattle.chorus_entry.specs.declared.command.Command.{Command}
use Rattle.chorus_entry.specs.declared.message.Message.{Message}
use Rattle.chorus_entry.specs.declared.record.PortRecord.{PortRecord}
use Rattle.chorus_calls.specs.Callers.{Seated}
use Rattle.chorus_ports.specs.declared.taking.Taken.TheVariants as takes
use Rattle.chorus_ports.specs.Table.{find}
use Rattle.chorus_ports.specs.Taking.{first_at, taken}
use Rattle.law_awaits.specs.Awaits.{is_taken}
use Rattle.law_machine.specs.declared.reply.Reply.{Reply}
use Rattle.law_machine.specs.PlaceState.{Turn}
use Rattle.law_machine.specs.PlaceMachine.{begun, act}
use Rattle.law_machine.specs.Doing.{first_in, first_message}
use Rattle.law_machine.specs.Own.{own, take_act}
use Rattle.law_machine.specs.Replies.{reply, reply_to, taken_reply, settling}
use Rattle.chorus_place.specs.Calls.{Place, state}
use Rattle.chorus_serve.specs.Desks.{DeskState}
use Rattle.chorus_nucleus.specs.declared.taken_message.TakenMessage.{TakenMessage}
use Rattle.chorus_nucleus.specs.Answers.{reply_with}
use Rattle.chorus_nucleus.specs.SiteTurns.Jobs.{Acted}
use Rattle.chorus_nucleus.specs.SiteTurns.Readiness.{message_in, TookOrLooked}

-- the take whose own act receives a message is answered by one
answered : (q : Ui) (t u : Turn) (o : Option PortRecord) → find q t.place.ports ≡ o → is_taken (take_act q (taken t.caller.actor o)) ≡ true
    → (m : TakenMessage) × (reply_to (take_act q (taken t.caller.actor o)) t u ≡ reply_with m)
answered q t u None e h = absurd (false≢true h)
answered q t u (Some port) e h =
    by (same_ui port.actor t.caller.actor) port.pending (ap first_message e) h
  where
    by : (b : Bool) (ms : List Message) → first_message (find q t.place.ports) ≡ first_in ms → is_taken (take_act q (if b then first_at port.first ms else takes.NotHere)) ≡ true
        → (m : TakenMessage) × (reply_to (take_act q (if b then first_at port.first ms else takes.NotHere)) t u ≡ reply_with m)
    by true (m ∷ ms) f k = (record { position = port.first; message = m; settled = settling m.tag t.caller; by_take = record {} }, ap (λ z. taken_reply port.first z t.caller) f)
    by true [] f k = absurd (false≢true k)
    by false ms f k = absurd (false≢true k)

pub takes-reply : (q : Ui) (t : Turn) → is_taken (own (Command.Take q) t) ≡ true → (m : TakenMessage) × (reply (Command.Take q) t ≡ reply_with m)
takes-reply q t h = answered q t (act (Command.Take q) t) (find q t.place.ports) refl h

pub took-ready : (c : Command) (q : Ui) (took : Option (Snapshot Place)) (r : Reply) (w x : Seated) (d : DeskState) → c ≡ Command.Take q → is_taken (take_act q (taken w.actor (find q d.place.ports))) ≡ true
    → Acted c took (Ok r) w x d → TookOrLooked c took (Ok (message_in r)) w x d
took-ready c q None r w x d take h a = absurd a
took-ready c q (Some z) r w x d take h a =
    let k = takes-reply q (begun (state d.place) w) h in
    let is : r ≡ reply_with k.0 = a.1 ∙ ap (λ (b : Command). reply b (begun (state d.place) w)) take ∙ k.1 in
    subst (λ y. TookOrLooked c (Some z) (Ok (message_in y)) w x d) (sym is) (a.0, sym is ∙ a.1, a.2)
