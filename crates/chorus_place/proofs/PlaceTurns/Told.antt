-- The entry of a decision gives the very answer that was decided, so that the reply by the answer is the reply by the entry.
-- m is the message, x its id, q its port, s the place, t the turn before the decision and u behind it.
use Rattle.std.proofs.Common.{◌≡◌, ℕ, ◌==◌, nat_lt, Bool, true, false, cond, Option, Some, None, refl, sym, ◌∙◌, ap}
use Rattle.chorus_ui.specs.declared.ui.Ui.{Ui}
use Rattle.chorus_entry.specs.declared.id.MsgId.{MsgId}
use Rattle.chorus_entry.specs.declared.message.Message.{Message}
use Rattle.chorus_entry.specs.declared.record.PortRecord.{PortRecord}
use Rattle.chorus_entry.specs.declared.answer.Answer.{Answer}
use Rattle.chorus_entry.specs.declared.answer.Answer.TheVariants as A
use Rattle.chorus_entry.specs.Act.{answer_of}
use Rattle.chorus_world.specs.declared.place.Location.{Location}
use Rattle.chorus_world.specs.Places.{is_deleted}
use Rattle.chorus_ports.specs.declared.deciding.Accept.{Accept}
use Rattle.chorus_ports.specs.declared.deciding.Accept.TheVariants as accepts
use Rattle.chorus_ports.specs.Deciding.{answer_to}
use Rattle.chorus_ports.specs.Table.{find}
use Rattle.law_machine.specs.declared.reply.Reply.{Reply}
use Rattle.law_machine.specs.PlaceState.{PlaceState, Turn, newest}
use Rattle.law_machine.specs.Deciding.{answer_in, answer_moved, answer_away, decide, decision}
use Rattle.law_machine.specs.Deciding.{answer_of as answer_by}
use Rattle.law_machine.specs.Replies.{verdict_reply, decided_reply, post_reply}
use Rattle.chorus_place.specs.PlaceTables.AtOnce.{decided}

abbrev IsTold : MsgId → Ui → ℕ → Answer → Type 0
IsTold x q tried a = answer_of (decision x q tried a) ≡ Some a

held : (x : MsgId) (q : Ui) (tried : ℕ) (k : Accept) → IsTold x q tried (answer_in k)
held x q tried (accepts.Accepted pos) = refl
held x q tried (accepts.Already m) = refl
held x q tried (accepts.ClientsFull m) = refl
held x q tried (accepts.Full len m) = refl

moved : (x : MsgId) (q : Ui) (tried : ℕ) (only : Option ℕ) (newer : Location) → IsTold x q tried (answer_moved only newer)
moved x q tried None newer = refl
moved x q tried (Some site) newer = refl

away : (x : MsgId) (q : Ui) (tried p : ℕ) (only : Option ℕ) (newer : Location) → IsTold x q tried (answer_away p only tried newer)
away x q tried p only newer = by (nat_lt tried newer.hop) (newer.to == p) (tried == 0)
  where
    by : (a b c : Bool)
        → IsTold x q tried (cond a (cond b (A.Early newer.hop) (answer_moved only newer)) (cond c A.NoPort (A.Early tried)))
    by true true c = refl
    by true false c = moved x q tried only newer
    by false b true = refl
    by false b false = refl

pub told : (m : Message) (q : Ui) (tried : ℕ) (x : MsgId) (s : PlaceState) → IsTold x q tried (decide m q None tried s)
told m q tried x s = by (find q s.ports)
  where
    absent : (b : Bool) → IsTold x q tried (cond b A.Gone (answer_away s.number None tried (newest s q)))
    absent true = refl
    absent false = away x q tried s.number None (newest s q)

    by : (o : Option PortRecord) → IsTold x q tried (answer_by m q None tried s o)
    by (Some port) = held x q tried (answer_to m port)
    by None = absent (is_deleted q s.journal)

pub reply-told : (m : Message) (q : Ui) (hop : ℕ) (t u : Turn) (r : Reply) → u ≡ decided m q hop t
    → r ≡ verdict_reply m.id (decide m q None hop t.place) → r ≡ post_reply m.id u.place.journal
reply-told m q hop t u r d a =
    a ∙ ap (decided_reply m.id) (sym (told m q hop m.id t.place)) ∙ sym (ap (λ (x : Turn). post_reply m.id x.place.journal) d)
