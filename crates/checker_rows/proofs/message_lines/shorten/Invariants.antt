use Rattle.std.proofs.Common.{◌≡◌, filter, length}
use Rattle.checker_rows.specs.Lines.{is_open}
use Rattle.checker_rows.proofs.message_lines.shorten.Given as goal

abbrev pub invariant-loop-id : goal.invariant-loop-id
invariant-loop-id l = filter (is_open l.messages l.end) l.line.items ≡ filter (is_open l.messages l.end) l.initial.line.items

abbrev pub decreases-loop-id : goal.decreases-loop-id
decreases-loop-id l = length l.line.items
