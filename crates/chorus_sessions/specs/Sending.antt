-- What the parts of a delivery do, and what they tell.
-- n is a nucleus, q a port, body the bytes that are sent, x a message's id, a and b are a pass before and after.
use Rattle.std.specs.Prelude.{Option, Some, None, List, Ok, ℕ}
use Rattle.chorus_ui.specs.declared.ui.Ui.{Ui}
use Rattle.chorus_entry.specs.declared.answer.Answer.{Answer}
use Rattle.chorus_entry.specs.declared.id.MsgId.{MsgId}
use Rattle.law_machine.specs.declared.outcome.Outcome.{Outcome}
use Rattle.law_machine.specs.declared.reply.Reply.{Reply}
use Rattle.chorus_nucleus.specs.declared.nucleus.Nucleus.{Nucleus}
use Rattle.chorus_nucleus.specs.declared.pass.Pass.{Pass}
use Rattle.chorus_nucleus.specs.Calls.{IsOutcome}
use Rattle.chorus_sessions.specs.declared.sending.Told.{Told}
use Rattle.chorus_sessions.specs.Delivering.{IsLast, IsTry, Posts, Waits}

-- what the reply to a post tells
abbrev pub told_in : Reply → Told
told_in (Reply.Accepted x position) = Told.Accepted record { id = x; position = position }
told_in (Reply.Early x hop) = Told.Again
told_in _ = Told.Refused

-- what a verdict on it tells, or that there is none
abbrev pub told_of : MsgId → Option Answer → Told
told_of x (Some (Answer.Accepted position)) = Told.Accepted record { id = x; position = position }
told_of x (Some (Answer.Early hop)) = Told.Again
told_of x _ = Told.Refused

-- an outcome told this answer; else it was asked for in vain, or not at all
abbrev pub Hears : Nucleus → MsgId → Outcome → Pass → Pass → Type 0
Hears n x (Outcome.Answer answer) a b = IsOutcome n x a b (Ok (Outcome.Answer answer))
Hears n x _ a b = Waits n x a b

-- so it did after it was waited for
abbrev pub Awaits : Nucleus → MsgId → Option Answer → Pass → Pass → Type 0
Awaits n x (Some answer) a b = (c : Pass) × Waits n x a c × IsOutcome n x c b (Ok (Outcome.Answer answer))
Awaits n x None a b = Waits n x a b

-- what was sent once, and what was told of it
abbrev pub Sends : Nucleus → Ui → List ℕ → Told → Pass → Pass → Type 0
Sends n q body (Told.Accepted t) a b = Posts n q body t.id (Some (Answer.Accepted t.position)) a b
Sends n q body Told.Again a b = IsTry n q body a b
Sends n q body Told.Refused a b = IsLast n q body a b
