-- What the journal says of a message, in the parts that one pass over it reads.
-- x is the message's id, d the destination of its post.
use Rattle.std.specs.Prelude.{ℕ, nat_le, if◌then◌else◌, Option, Some, None}
use Rattle.std.specs.Option.{option_map}
use Rattle.chorus_entry.specs.declared.entry.Entry.{Entry}
use Rattle.chorus_entry.specs.declared.id.MsgId.{MsgId}
use Rattle.chorus_entry.specs.declared.dest.Dest.{Dest}
use Rattle.chorus_entry.specs.declared.answer.Answer.{Answer}
use Rattle.chorus_world.specs.Views.{is_by}
use Rattle.chorus_world.specs.Posts.{Posted, posted_by}
use Rattle.law_machine.specs.declared.outcome.Outcome.{Outcome}
use Rattle.law_machine.specs.Outcomes.{count_in, became}

-- where the post goes
abbrev pub goes_to : Option Posted → Option Dest
goes_to post = option_map (λ (m : Posted). m.dest) post

-- where the post of this id goes, where the entry makes it
abbrev pub dest_by : MsgId → Entry → Option Dest
dest_by x e = if is_by x.seat e then goes_to (posted_by x e.place e.act) else None

-- how many copies a post with this answer has
abbrev pub copies_by : Dest → Option Answer → ℕ
copies_by (Dest.Port q) answer = 0
copies_by d answer = count_in answer

-- what became of a message: by where its post goes, the answer of the post, and its own
abbrev pub outcome_by : MsgId → Option Dest → Option Answer → Option Answer → Outcome
outcome_by x None post own = Outcome.Unknown
outcome_by x (Some d) post own = if nat_le x.copy (copies_by d post) then became own else Outcome.Unknown
