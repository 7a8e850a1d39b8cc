use Rattle.std.proofs.Common.{◌≡◌, ◌+◌, drop}
use Rattle.explore_report.specs.Lines.{lines_of_all, outcomes_with}
use Rattle.explore_report.proofs.lines.outcomes_with.Given as goal

-- those that are left complete the number
abbrev pub invariant-loop-lines : goal.invariant-loop-lines
invariant-loop-lines l = l.count + outcomes_with l.line (lines_of_all (drop l.lines-index l.all)) ≡ outcomes_with l.line (lines_of_all l.all)
