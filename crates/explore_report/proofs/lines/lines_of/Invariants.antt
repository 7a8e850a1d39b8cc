use Rattle.std.proofs.Common.{◌≡◌, ◌≤◌, ◌-◌, ◌++◌, map, take, drop}
use Rattle.explore_report.specs.Lines.{line_of, lines_from, lines_in}
use Rattle.explore_report.proofs.lines.lines_of.Given as goal

-- what is left completes the lines, behind the front of one that was begun
abbrev pub invariant-loop-index : goal.invariant-loop-index
invariant-loop-index l = (l.start ≤ l.index) × (map line_of l.lines.items ++ lines_from (take (l.index - l.start) (drop l.start l.text)) (drop l.index l.text) ≡ lines_in l.text)
