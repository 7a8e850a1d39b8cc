use Rattle.std.proofs.Common.{◌≡◌, ◌+◌, ◌++◌, map, drop}
use Rattle.explore_report.specs.Reports.{schedules_from, told_of}
use Rattle.explore_report.proofs.text.push_schedules.Given as goal

-- what is left completes the text
abbrev pub invariant-loop-index : goal.invariant-loop-index
invariant-loop-index l = l.text.items ++ schedules_from (l.index + 1) l.is_few (map told_of l.facts) (drop l.index l.items) ≡ l.initial.text.items ++ schedules_from 1 l.is_few (map told_of l.facts) l.items
