-- What one entry began that is open, with its line. A past has its newest entry first; `all` is the whole one, of which
-- what is read is looked at.
use Rattle.std.specs.Prelude.{ℕ, List, map}
use Rattle.std.specs.List.{flat_map}
use Rattle.chorus_entry.specs.declared.entry.Entry.{Entry}
use Rattle.chorus_entry.specs.declared.id.MsgId.{MsgId}
use Rattle.chorus_entry.specs.declared.act.Act.{Act}
use Rattle.chorus_world.specs.declared.place.Sent.{Sent}
use Rattle.law_judge.specs.declared.open.OpenAt.{OpenAt}
use Rattle.law_judge.specs.Open.{at_line}
use Rattle.judge_promises.specs.Open.{open_by, open_message}
use Rattle.judge_promises.specs.Terms.{read}

-- the act at line n
abbrev pub found_at : List Entry → ℕ → Act → List OpenAt
found_at all n act = map (at_line n) (open_by (read all) act)

-- a message that it sent, and the copies of one
abbrev pub message_at : List Entry → ℕ → MsgId → List OpenAt
message_at all n x = map (at_line n) (open_message (read all) x)

abbrev pub copies_at : List Entry → ℕ → List Sent → List OpenAt
copies_at all n ms = map (at_line n) (flat_map (λ m. open_message (read all) m.id) ms)
