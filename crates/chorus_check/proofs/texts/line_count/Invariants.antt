use Rattle.std.proofs.Common.{◌≡◌, ◌+◌, ◌≤◌, drop, length}
use Rattle.explore_report.specs.Lines.{lines_in}
use Rattle.chorus_check.proofs.texts.line_count.Given as goal

-- those that are left complete the number, and no byte has two lines
abbrev pub invariant-loop-byte : goal.invariant-loop-byte
invariant-loop-byte l = (l.count + length (lines_in (drop l.byte-index l.facts)) ≡ length (lines_in l.facts)) × (l.count ≤ l.byte-index)
