use Rattle.std.proofs.Common.{List, ◌≡◌, ◌++◌, ◌==◌, ℕ, length, map, drop}
use Rattle.std.specs.List.{filter}
use Rattle.explore_report.specs.Lines.{line_of, lines_of_all, outcomes_with}
use Rattle.explore_report.proofs.lines.always_of.Given as goal

-- those that are left complete the lines
abbrev pub invariant-loop-line : goal.invariant-loop-line
invariant-loop-line l =
    let is-always = λ (line : List ℕ). outcomes_with line (lines_of_all l.all) == length l.all in
    map line_of l.always.items ++ filter is-always (map line_of (drop l.line-index l.line-items)) ≡ filter is-always (map line_of l.line-items)
