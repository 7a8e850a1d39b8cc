use Rattle.std.proofs.Common.{◌≡◌, map, drop}
use Rattle.explore_report.specs.Reports.{is_told, told_of}
use Rattle.explore_report.proofs.text.is_told.Given as goal

-- none of those passed is the line
abbrev pub invariant-loop-fact : goal.invariant-loop-fact
invariant-loop-fact l = is_told l.line (map told_of (drop l.fact-index l.facts)) ≡ is_told l.line (map told_of l.facts)
