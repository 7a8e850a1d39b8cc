use Rattle.std.proofs.Common.{◌≡◌, map, drop}
use Rattle.explore_report.specs.Lines.{has_line, line_of}
use Rattle.explore_report.proofs.lines.has_line.Given as goal

-- none of those passed is the line
abbrev pub invariant-loop-other : goal.invariant-loop-other
invariant-loop-other l = has_line l.line (map line_of (drop l.other-index l.lines)) ≡ has_line l.line (map line_of l.lines)
