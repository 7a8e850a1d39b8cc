use Rattle.std.proofs.Common.{◌≡◌, ◌++◌, map, drop}
use Rattle.explore_report.specs.Lines.{line_of}
use Rattle.explore_report.specs.Reports.{plain_text}
use Rattle.explore_report.proofs.text.push_always.Given as goal

-- what is left completes the text
abbrev pub invariant-loop-line : goal.invariant-loop-line
invariant-loop-line l = l.text.items ++ plain_text (map line_of (drop l.line-index l.always)) ≡ l.initial.text.items ++ plain_text (map line_of l.always)
