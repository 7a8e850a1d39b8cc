use Rattle.std.proofs.Common.{◌≡◌, ◌≤◌, ◌++◌, List, take, length}
use Rattle.chorus_entry.specs.declared.id.MsgId.{MsgId}
use Rattle.chorus_world.specs.Places.{copies}
use Rattle.checker_rows.specs.Lines.{line_in, sent_by_line}
use Rattle.checker_rows.specs.declared.keys.LineKey.{LineKey}
use Rattle.checker_rows.proofs.message_lines.take_back.Given as goal

abbrev pub invariant-loop-left : goal.invariant-loop-left
invariant-loop-left l =
    (l.left ≤ length l.members)
    × ((before : LineKey → List MsgId) → ((k : LineKey) → line_in l.initial.lines k ≡ before k ++ sent_by_line l.place k (copies l.fn.post l.group 1 l.members)) → (k : LineKey) → line_in l.lines k ≡ before k ++ sent_by_line l.place k (copies l.fn.post l.group 1 (take l.left l.members)))

abbrev pub decreases-loop-left : goal.decreases-loop-left
decreases-loop-left l = l.left
