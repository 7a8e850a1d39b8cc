-- What one entry began that is open, with its line. A past has its newest entry first; `all` is the whole one.
use Rattle.std.specs.Prelude.{ℕ, Bool, false, List, map, Option, Some, None}
use Rattle.std.specs.List.{flat_map}
use Rattle.chorus_ui.specs.declared.layout.Layout.{Layout}
use Rattle.chorus_entry.specs.declared.entry.Entry.{Entry}
use Rattle.chorus_entry.specs.declared.id.MsgId.{MsgId}
use Rattle.chorus_entry.specs.Dest.{group_in}
use Rattle.chorus_world.specs.declared.place.Sent.{Sent}
use Rattle.chorus_world.specs.Steps.{is_asking_place}
use Rattle.checker_rows.specs.declared.posting.Posting.{Posting}
use Rattle.law_judge.specs.declared.open.OpenAt.{OpenAt}
use Rattle.law_judge.specs.Open.{at_line, open_by, open_message}

-- the entry at line n
abbrev pub found_at : Layout → List Entry → ℕ → Entry → List OpenAt
found_at l all n e = map (at_line n) (open_by l all e.clock e.place e.act)

-- a message that it sent, and the copies of one
abbrev pub message_at : Layout → List Entry → ℕ → MsgId → List OpenAt
message_at l all n x = map (at_line n) (open_message l all x)

abbrev pub copies_at : Layout → List Entry → ℕ → List Sent → List OpenAt
copies_at l all n ms = map (at_line n) (flat_map (λ m. open_message l all m.id) ms)

-- `is_asked_away` of a post without its body
abbrev pub asked_away : Layout → Option Posting → Bool
asked_away l None = false
asked_away l (Some m) = is_asking_place l m.place (group_in m.dest)
