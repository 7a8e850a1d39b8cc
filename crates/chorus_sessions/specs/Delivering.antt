-- What a session does to deliver a message, and what it is told of it.
-- n is a nucleus, q a port, body the bytes that are sent, x a message's id, a and b are a pass before and after, c and
-- d between.
use Rattle.std.specs.Prelude.{ℕ, ◌≡◌, ◌⊎◌, Bool, true, false, Option, Some, None, List, [], ◌∷◌, ◌++◌, Result, Ok, Err}
use Rattle.chorus_ui.specs.declared.ui.Ui.{Ui}
use Rattle.chorus_entry.specs.declared.answer.Answer.{Answer}
use Rattle.chorus_entry.specs.declared.command.Command.{Command}
use Rattle.chorus_entry.specs.declared.dest.Dest.{Dest}
use Rattle.chorus_entry.specs.declared.id.MsgId.{MsgId}
use Rattle.chorus_entry.specs.declared.tag.Tag.TheVariants.{Plain}
use Rattle.law_machine.specs.declared.outcome.Outcome.{Outcome}
use Rattle.law_machine.specs.declared.reply.Reply.{Reply}
use Rattle.law_machine.specs.Replies.{verdict_reply}
use Rattle.chorus_serve.specs.declared.served.Pump.{Pump}
use Rattle.chorus_nucleus.specs.declared.fault.CallFault.{CallFault}
use Rattle.chorus_nucleus.specs.declared.nucleus.Nucleus.{Nucleus}
use Rattle.chorus_nucleus.specs.declared.pass.Pass.{Pass}
use Rattle.chorus_nucleus.specs.Calls.{IsCall, IsOutcome, IsServe}
use Rattle.chorus_sessions.specs.declared.hand.PortMessage.{PortMessage}
use Rattle.chorus_sessions.specs.declared.sending.Accepted.{Accepted}
use Rattle.chorus_sessions.specs.declared.session.Session.{Session}
use Rattle.chorus_sessions.specs.Sessions.{delivered_by, pass_of}

-- Steps.

-- from a, a step to each of these passes, the last of which is b
abbrev pub Through : (Pass → Pass → Type 0) → List Pass → Pass → Pass → Type 0
Through step [] a b = b ≡ a
Through step (c ∷ cs) a b = step a c × Through step cs c b

-- by some steps, or by none
abbrev pub Steps : (Pass → Pass → Type 0) → Pass → Pass → Type 0
Steps step a b = (cs : List Pass) × Through step cs a b

-- a place was served
abbrev pub IsServed : Nucleus → Pass → Pass → Type 0
IsServed n a b = (p : ℕ) × (r : Result Pump CallFault) × IsServe n p a b r

-- places were served, and nothing else was done
abbrev pub Pumps : Nucleus → Pass → Pass → Type 0
Pumps n a b = Steps (IsServed n) a b

abbrev pub is_answered : Result Outcome CallFault → Bool
is_answered (Ok (Outcome.Answer answer)) = true
is_answered _ = false

-- it was asked in vain what became of x
abbrev pub IsAskedInVain : Nucleus → MsgId → Pass → Pass → Type 0
IsAskedInVain n x a b = (r : Result Outcome CallFault) × IsOutcome n x a b r × (is_answered r ≡ false)

-- a verdict on x was waited for: places were served, it was asked for in vain, and nothing else was done
abbrev pub Waits : Nucleus → MsgId → Pass → Pass → Type 0
Waits n x a b = Steps (λ c d. IsServed n c d ⊎ IsAskedInVain n x c d) a b

-- Posts.

abbrev pub sending : Ui → List ℕ → Command
sending q body = Command.Send (Dest.Port q) body

-- the body was posted to the port, once, under the id x, and the reply told this verdict
abbrev pub IsToldAtOnce : Nucleus → Ui → List ℕ → MsgId → Answer → Pass → Pass → Type 0
IsToldAtOnce n q body x answer a b = IsCall n (sending q body) a b (Ok (verdict_reply x answer))

-- so it was posted, and an outcome that was waited for told it
pub record IsToldLater (n : Nucleus) (q : Ui) (body : List ℕ) (x : MsgId) (answer : Answer) (a b : Pass) : Type 0 where
  pub posted : Pass
  pub between : Pass
  pub call : IsCall n (sending q body) a posted (Ok (Reply.Posted x))
  pub waits : Waits n x posted between
  pub told : IsOutcome n x between b (Ok (Outcome.Answer answer))

-- The body was posted to the port, once, under the id x; and this was told of it, or nothing.
abbrev pub Posts : Nucleus → Ui → List ℕ → MsgId → Option Answer → Pass → Pass → Type 0
Posts n q body x (Some answer) a b = IsToldAtOnce n q body x answer a b ⊎ IsToldLater n q body x answer a b
Posts n q body x None a b =
    (c : Pass) × IsCall n (sending q body) a c (Ok (Reply.Posted x)) × Waits n x c b

-- A delivery.

-- What comes to nothing, and is told so: the place was busy, and nothing was posted; or it was posted once, and came
-- too early. Meanwhile places are served.
abbrev pub IsTry : Nucleus → Ui → List ℕ → Pass → Pass → Type 0
IsTry n q body a b =
    IsServed n a b ⊎ ((by : ℕ) × IsCall n (sending q body) a b (Err (CallFault.Busy by)))
    ⊎ ((x : MsgId) × (hop : ℕ) × Posts n q body x (Some (Answer.Early hop)) a b)

abbrev pub is_accepted : Option Answer → Bool
is_accepted (Some (Answer.Accepted position)) = true
is_accepted _ = false

-- nothing was posted any more; or it was posted once more, and told was anything but Accepted, or nothing
abbrev pub IsLast : Nucleus → Ui → List ℕ → Pass → Pass → Type 0
IsLast n q body a b =
    (b ≡ a) ⊎ ((f : CallFault) × IsCall n (sending q body) a b (Err f))
    ⊎ ((x : MsgId) × (told : Option Answer) × Posts n q body x told a b × (is_accepted told ≡ false))

-- of the posts of this delivery all but the last came too early, and of that, x, an Accepted at this position was told
pub record IsAccepted (n : Nucleus) (q : Ui) (body : List ℕ) (x : MsgId) (position : ℕ) (a b : Pass) : Type 0 where
  pub before : Pass
  pub tries : Steps (IsTry n q body) a before
  pub told : Posts n q body x (Some (Answer.Accepted position)) before b

-- of its posts none was accepted, as far as was told: all but the last came too early, and of that no Accepted was told
pub record IsNotAccepted (n : Nucleus) (q : Ui) (body : List ℕ) (a b : Pass) : Type 0 where
  pub before : Pass
  pub tries : Steps (IsTry n q body) a before
  pub last : IsLast n q body before b

-- what a delivery did that tells which post was accepted, or none
abbrev pub DeliversAs : Nucleus → Ui → List ℕ → Option Accepted → Pass → Pass → Type 0
DeliversAs n q body (Some t) a b = IsAccepted n q body t.id t.position a b
DeliversAs n q body None a b = IsNotAccepted n q body a b

-- the message that was accepted, as it is kept
abbrev pub as_delivered : Ui → List ℕ → Accepted → PortMessage
as_delivered q body t =
    record { port = q; position = t.position; message = record { id = t.id; tag = Plain; body = body } }

-- What a session did that tells whether its message was accepted: then that is the last of what it delivered; else what
-- it delivered is as it was.
abbrev pub Delivers : Nucleus → Ui → List ℕ → Bool → Session → Session → Type 0
Delivers n q body true a b =
    (t : Accepted) × DeliversAs n q body (Some t) (pass_of a) (pass_of b)
    × (delivered_by b ≡ delivered_by a ++ as_delivered q body t ∷ [])
Delivers n q body false a b =
    DeliversAs n q body None (pass_of a) (pass_of b) × (delivered_by b ≡ delivered_by a)
