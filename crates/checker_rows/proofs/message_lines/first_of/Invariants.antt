use Rattle.std.proofs.Common.{◌≡◌, find, drop}
use Rattle.checker_rows.specs.Lines.{is_open}
use Rattle.checker_rows.proofs.message_lines.first_of.Given as goal

abbrev pub invariant-loop-i : goal.invariant-loop-i
invariant-loop-i l = find (is_open l.messages l.end) l.line.items ≡ find (is_open l.messages l.end) (drop l.i l.line.items)
