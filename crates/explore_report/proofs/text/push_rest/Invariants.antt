use Rattle.std.proofs.Common.{◌≡◌, ◌++◌, map, drop}
use Rattle.explore_report.specs.Lines.{line_of}
use Rattle.explore_report.specs.Reports.{rest_text}
use Rattle.explore_report.proofs.text.push_rest.Given as goal

-- what is left completes the text
abbrev pub invariant-loop-line : goal.invariant-loop-line
invariant-loop-line l = l.text.items ++ rest_text (map line_of l.always) (map line_of (drop l.line-index l.lines)) ≡ l.initial.text.items ++ rest_text (map line_of l.always) (map line_of l.lines)
