use Rattle.std.proofs.Common.{◌≡◌, map, drop}
use Rattle.explore_report.specs.Lines.{line_of}
use Rattle.explore_report.specs.Reports.{tell_lines, told_of}
use Rattle.explore_report.proofs.text.tell.Given as goal

-- what is left completes the facts
abbrev pub invariant-loop-line : goal.invariant-loop-line
invariant-loop-line l = tell_lines l.outcome (map line_of (drop l.line-index l.lines)) (map told_of l.facts.items) ≡ tell_lines l.outcome (map line_of l.lines) (map told_of l.initial.facts.items)
