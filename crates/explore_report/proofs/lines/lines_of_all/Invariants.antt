use Rattle.std.proofs.Common.{◌≡◌, ◌++◌, drop}
use Rattle.explore_report.specs.Lines.{lines_of_all, texts_lines}
use Rattle.explore_report.proofs.lines.lines_of_all.Given as goal

-- those that are left complete the lines
abbrev pub invariant-loop-index : goal.invariant-loop-index
invariant-loop-index l = lines_of_all l.all.items ++ texts_lines (drop l.index l.items) ≡ texts_lines l.items
