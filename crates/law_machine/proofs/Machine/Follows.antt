-- What follows from a command's own act, or from a packet, is a chain of entries of the same caller, none of which answers a
-- command. So what every such entry keeps, the turn keeps.
use Rattle.std.proofs.Common.{ℕ, ◌≡◌, false, List, [], ◌∷◌, Option, Some, None, refl, subst}
use Rattle.chorus_ui.specs.declared.ui.Ui.{Ui}
use Rattle.chorus_entry.specs.declared.id.MsgId.{MsgId}
use Rattle.chorus_entry.specs.declared.tag.Tag.{Tag}
use Rattle.chorus_entry.specs.declared.dest.Dest.{Dest}
use Rattle.chorus_entry.specs.declared.message.Message.{Message}
use Rattle.chorus_entry.specs.declared.command.Command.{Command}
use Rattle.chorus_entry.specs.declared.act.Act.{Act}
use Rattle.chorus_entry.specs.declared.answer.Answer.{Answer}
use Rattle.chorus_entry.specs.declared.answer.Answer.TheVariants as answers
use Rattle.chorus_entry.specs.declared.packet.Packet.{Packet}
use Rattle.chorus_entry.specs.Act.{is_command_entry}
use Rattle.chorus_ports.specs.Table.{find}
use Rattle.chorus_calls.specs.Callers.{Seated}
use Rattle.place_unsettled.specs.declared.wait.Key.{Key}
use Rattle.law_machine.specs.PlaceState.{Turn, Change, newest, say}
use Rattle.law_machine.specs.Deciding.{decide, decision}
use Rattle.law_machine.specs.Trying.{go}
use Rattle.law_machine.specs.Choosing.{all_go}
use Rattle.law_machine.specs.Own.{own}
use Rattle.law_machine.specs.Doing.{after_tag, poster, holding, first_message, does}
use Rattle.law_machine.specs.PlaceMachine.{act, work}
use Rattle.law_machine.proofs.Machine.Steps.{Step, Settles, Chooses, AnswersTry, Answers, Asks, act_of, change_of, holder, own_change, taken, opening, begins, Follows, Works, follows-works}
use Rattle.law_machine.proofs.Machine.Steps as steps

-- the caller is the same one
pub record IsSame (c d : Seated) : Type 0 where
  pub seat : c.seat ≡ d.seat
  pub actor : c.actor ≡ d.actor

tagged : (tag : Tag) (q : Ui) (body : List ℕ) (c : Seated) → IsSame (after_tag tag q body c) c
tagged Tag.Plain q body c = record { seat = refl; actor = refl }
tagged (Tag.Request n back) q body c = record { seat = refl; actor = refl }
tagged (Tag.Reply client n) q body c = record { seat = refl; actor = refl }

pub poster-same : (m : Message) (d : Dest) (c : Seated) → IsSame (poster m d c) c
poster-same m (Dest.Port q) c = let h = tagged m.tag q m.body c in record { seat = h.seat; actor = h.actor }
poster-same m _ c = record { seat = refl; actor = refl }

held : (x : MsgId) (tag : Tag) (c : Seated) → IsSame (holding x tag c) c
held x Tag.Plain c = record { seat = refl; actor = refl }
held x (Tag.Request n back) c = record { seat = refl; actor = refl }
held x (Tag.Reply client n) c = record { seat = refl; actor = refl }

took : (o : Option Message) (c : Seated) → IsSame (holder o c) c
took None c = record { seat = refl; actor = refl }
took (Some m) c = held m.id m.tag c

own-same : (a : Act) (t : Turn) → IsSame (own_change a t).caller t.caller
own-same (Act.Post m d) t = poster-same m d t.caller
own-same (Act.Take q position x) t = took (first_message (find q t.place.ports)) t.caller
own-same _ t = record { seat = refl; actor = refl }

pub same-caller : (s : Step) (t : Turn) → IsSame (change_of s t).caller t.caller
same-caller (Answers a) t = own-same a t
same-caller (Asks m d to) t = poster-same m d t.caller
same-caller _ t = record { seat = refl; actor = refl }

-- a decision answers no command
decision-follows : (x : MsgId) (q : Ui) (h : ℕ) (a : Answer) → is_command_entry (decision x q h a) ≡ false
decision-follows x q h (answers.Accepted pos) = refl
decision-follows x q h _ = refl

no-answer : (s : Step) (t : Turn) → Works s t → is_command_entry (act_of s t) ≡ false
no-answer (Settles k w a) t f = decision-follows w.message.id k.port (newest t.place k.port).hop a
no-answer (AnswersTry from m q route only tried) t f = decision-follows m.id q tried (decide m q only tried t.place)
no-answer (Chooses m d g home []) t f = refl
no-answer (Chooses m d g home (q ∷ qs)) t f = refl
no-answer (Answers a) t f = absurd f
no-answer (Asks m d to) t f = absurd f
no-answer _ t f = refl

-- and what answers none counts no post and gives no call number
pub still-counts : (P : ℕ → ℕ → Type 0) (s : Step) (t : Turn) → Works s t → P t.caller.posts t.caller.client.given → P (taken s t).caller.posts (taken s t).caller.client.given
still-counts P (Answers a) t f h = absurd f
still-counts P (Asks m d to) t f h = absurd f
still-counts P _ t f h = h

module _ (P : Turn → Type 0) (keeps : (a : Act) (c : Change) (t : Turn) → is_command_entry a ≡ false → IsSame c.caller t.caller → P t → P (say a c t)) where
  step-keeps : (s : Step) (t : Turn) → Works s t → P t → P (taken s t)
  step-keeps s t f p = keeps (act_of s t) (change_of s t) t (no-answer s t f) (same-caller s t) p

  pub follow-keeps : (s : Step) (t : Turn) → Follows s t → P t → P (taken s t)
  follow-keeps s t f = step-keeps s t (follows-works s t f)

  pub go-keeps : (k : Key) (t : Turn) → P t → P (go k t)
  go-keeps = steps.go-keeps P follow-keeps

  pub all-go-keeps : (g : Ui) (qs : List Ui) (t : Turn) → P t → P (all_go g qs t)
  all-go-keeps = steps.all-go-keeps P follow-keeps

  -- the turn with a packet
  pub work-keeps : (k : Packet) (t : Turn) → P t → P (work k t)
  work-keeps = steps.work-keeps P step-keeps

  pub work-gives : (k : Packet) (t : Turn) → P (begins (opening k.from k.cargo t) t) → P (work k t)
  work-gives = steps.work-gives P follow-keeps

  -- and the turn with a command, where its own act gives it
  module _ (t : Turn) where
    abbrev First : Act → Type 0
    First a = (c : Change) → IsSame c.caller t.caller → P (say a c t)

    pub does-gives : (a : Act) → First a → P (does a t)
    does-gives a first =
        steps.does-gives P follow-keeps a t (first (own_change a t) (own-same a t))
        (λ m d to is. subst (λ b. P (say b (change_of (Asks m d to) t) t)) is (first (change_of (Asks m d to) t) (poster-same m d t.caller)))

    pub act-gives : (c : Command) → First (own c t) → P (act c t)
    act-gives c first = does-gives (own c t) first
