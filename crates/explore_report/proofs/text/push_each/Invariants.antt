use Rattle.std.proofs.Common.{◌≡◌, ◌+◌, ◌++◌, map, drop}
use Rattle.explore_report.specs.Lines.{line_of}
use Rattle.explore_report.specs.Reports.{outcomes_from}
use Rattle.explore_report.proofs.text.push_each.Given as goal

-- what is left completes the text
abbrev pub invariant-loop-index : goal.invariant-loop-index
invariant-loop-index l = l.text.items ++ outcomes_from (l.index + 1) (map line_of l.always) (drop l.index l.items) ≡ l.initial.text.items ++ outcomes_from 1 (map line_of l.always) l.items
