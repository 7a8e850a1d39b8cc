-- What became of a message, as the journal of the place says where it was posted. No turn reads it.
-- x is the message's id, d the destination of its post; `here` is the journal, the newest entry first.
use Rattle.std.specs.Prelude.{ℕ, nat_le, if◌then◌else◌, List, [], ◌∷◌, length, Option, Some, None}
use Rattle.std.specs.Option.{option_or}
use Rattle.chorus_entry.specs.declared.entry.Entry.{Entry}
use Rattle.chorus_entry.specs.declared.id.MsgId.{MsgId}
use Rattle.chorus_entry.specs.declared.dest.Dest.{Dest}
use Rattle.chorus_entry.specs.declared.act.Act.{Act}
use Rattle.chorus_entry.specs.declared.answer.Answer.{Answer}
use Rattle.chorus_entry.specs.declared.answer.Answer.TheVariants as A
use Rattle.chorus_entry.specs.Act.{is_verdict, answer_of, message_of}
use Rattle.chorus_entry.specs.Answer.{is_final}
use Rattle.chorus_entry.specs.MsgId.{same_id}
use Rattle.chorus_entry.specs.Same.{are_same}
use Rattle.chorus_world.specs.Posts.{Posted, post_of, source}
use Rattle.law_machine.specs.declared.outcome.Outcome.{Outcome}

-- the answer that an act gives for its message: a Told other than Stale, a Heard, a choice, or a verdict
abbrev pub said_of : Act → Option Answer
said_of (Act.Told x answer) = if is_final answer then Some answer else None
said_of (Act.Heard x answer) = Some answer
said_of (Act.Choose x g qs) = Some (A.Chosen (length qs))
said_of act = if is_verdict act then answer_of act else None

abbrev pub answer_by : MsgId → Act → Option Answer
answer_by x act = if are_same same_id (Some x) (message_of act) then said_of act else None

-- the first such answer
abbrev pub answer_for : MsgId → List Entry → Option Answer
answer_for x [] = None
answer_for x (e ∷ here) = option_or (answer_for x here) (answer_by x e.act)

-- how many copies the post has, as far as the journal shows: none after NoMember, and none while it shows no choice
abbrev pub count_in : Option Answer → ℕ
count_in (Some (A.Chosen count)) = count
count_in _ = 0

abbrev pub copies_of : MsgId → Dest → List Entry → ℕ
copies_of x (Dest.Port q) here = 0
copies_of x d here = count_in (answer_for (source x) here)

abbrev pub became : Option Answer → Outcome
became None = Outcome.Pending
became (Some answer) = Outcome.Answer answer

-- the message is known where its post is in the journal, and it is the post or one of its copies
abbrev pub outcome_of : MsgId → List Entry → Option Posted → Outcome
outcome_of x here None = Outcome.Unknown
outcome_of x here (Some posted) =
    if nat_le x.copy (copies_of x posted.dest here) then became (answer_for x here) else Outcome.Unknown

abbrev pub outcome : MsgId → List Entry → Outcome
outcome x here = outcome_of x here (post_of x here)
