use Rattle.std.proofs.Common.{◌≡◌, map, drop}
use Rattle.explore_report.specs.Reports.{is_named, told_of}
use Rattle.explore_report.proofs.text.is_named.Given as goal

-- none of those passed has the outcome
abbrev pub invariant-loop-fact : goal.invariant-loop-fact
invariant-loop-fact l = is_named l.outcome (map told_of (drop l.fact-index l.facts)) ≡ is_named l.outcome (map told_of l.facts)
