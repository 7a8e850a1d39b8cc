-- Messages: what the entries about one message say of it.
use Rattle.std.specs.Prelude.{ℕ, ◌==◌, Bool, false, ◌&&◌, if◌then◌else◌, List, [], ◌∷◌, length, Option, Some, None}
use Rattle.std.specs.Option.{option_or}
use Rattle.chorus_ui.specs.declared.ui.Ui.{Ui}
use Rattle.chorus_ui.specs.Name.{same_ui}
use Rattle.chorus_entry.specs.declared.entry.Entry.{Entry}
use Rattle.chorus_entry.specs.declared.id.MsgId.{MsgId}
use Rattle.chorus_entry.specs.Act.{port_of, answer_of, message_of, is_verdict}
use Rattle.chorus_entry.specs.MsgId.{same_id}
use Rattle.chorus_entry.specs.Same.{are_same}
use Rattle.chorus_entry.specs.Answer.{same_answer, is_final}
use Rattle.chorus_entry.specs.declared.dest.Dest.{Dest}
use Rattle.chorus_entry.specs.declared.dest.Dest.TheVariants.{Port}
use Rattle.chorus_entry.specs.declared.answer.Answer.{Answer}
use Rattle.chorus_entry.specs.declared.answer.Answer.TheVariants as A
use Rattle.chorus_world.specs.declared.progress.Progress.{Progress}
use Rattle.chorus_world.specs.declared.progress.Progress.TheVariants.{Idle, Asked, Tried, Decided, Settled, Reported}
use Rattle.chorus_entry.specs.declared.act.Act.{Act}
use Rattle.chorus_entry.specs.declared.act.Act.TheVariants.{Post, NoMember, Choose, Try, Told, Heard}

-- settled, unless the answer is Stale
abbrev pub settled : Answer → Progress
settled a = if is_final a then Settled a else Idle

abbrev pub posted : ℕ → Dest → Progress
posted p (Port q) = Idle
posted p d = Asked p d

-- decided where it was tried, or where it waits
abbrev pub decided : ℕ → Ui → Answer → Progress → Progress
decided p q a (Tried from r to hop) = if (to == p) && same_ui r q then Decided from p r a else Idle
decided p q a Idle = settled a
decided p q a s = s

abbrev pub told : Answer → Progress → Progress
told a (Decided from by q b) = settled a
told a s = s

abbrev pub decided_by : ℕ → Option Ui → Option Answer → Progress → Progress
decided_by p (Some q) (Some a) s = decided p q a s
decided_by p _ _ s = s

abbrev pub progress_after : ℕ → Act → Progress → Progress
progress_after p (Post m d) s = posted p d
progress_after p (Choose x g qs) s = Settled (A.Chosen (length qs))
progress_after p (NoMember x g) s = Settled A.NoMember
progress_after p (Try x q to hop) s = Tried p q to hop
progress_after p (Told x a) s = told a s
progress_after p (Heard x a) s = Reported
progress_after p act s = decided_by p (port_of act) (answer_of act) s

abbrev pub progress : List Entry → Progress
progress [] = Idle
progress (e ∷ message) = progress_after e.place e.act (progress message)

-- the place p is to be told this answer
abbrev pub is_to_be_told : ℕ → Answer → Progress → Bool
is_to_be_told p a (Decided from by q b) = (from == p) && same_answer a b
is_to_be_told p a _ = false

-- the message is settled by this answer, and the place of its post did not hear of it
abbrev pub is_to_be_heard : Answer → Progress → Bool
is_to_be_heard a (Settled b) = same_answer a b
is_to_be_heard a _ = false

-- the answer of the verdict of the message x
abbrev pub verdict_by : MsgId → Act → Option Answer
verdict_by x act = if is_verdict act && are_same same_id (Some x) (message_of act) then answer_of act else None

abbrev pub verdict : MsgId → List Entry → Option Answer
verdict x [] = None
verdict x (e ∷ past) = option_or (verdict x past) (verdict_by x e.act)
