use Rattle.std.proofs.Common.{◌≡◌, ◌+◌, [], map, drop}
use Rattle.explore_report.specs.Lines.{lines_of_all}
use Rattle.explore_report.specs.Reports.{tell_from, told_of}
use Rattle.explore_report.proofs.text.facts_of.Given as goal

-- what is left completes the facts
abbrev pub invariant-loop-index : goal.invariant-loop-index
invariant-loop-index l = tell_from (l.index + 1) (lines_of_all (drop l.index l.all)) (map told_of l.facts.items) ≡ tell_from 1 (lines_of_all l.all) []
