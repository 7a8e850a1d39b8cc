use Rattle.std.proofs.Common.{◌≡◌, ◌++◌, take}
use Rattle.chorus_world.specs.Places.{copies}
use Rattle.checker_rows.specs.Lines.{line_in, sent_by_line}
use Rattle.checker_rows.specs.declared.keys.LineKey.{LineKey}
use Rattle.checker_rows.proofs.message_lines.push_copies.Given as goal

abbrev pub invariant-loop-i : goal.invariant-loop-i
invariant-loop-i l = (k : LineKey) → line_in l.lines k ≡ line_in l.initial.lines k ++ sent_by_line l.place k (copies l.post l.group 1 (take l.i l.members))
