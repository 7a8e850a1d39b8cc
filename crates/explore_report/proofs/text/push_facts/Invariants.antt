use Rattle.std.proofs.Common.{◌≡◌, ◌++◌, map, take}
use Rattle.std.specs.List.{flat_map}
use Rattle.explore_report.specs.Lines.{lines_of_all}
use Rattle.explore_report.specs.Reports.{told_line, told_of}
use Rattle.explore_report.proofs.text.push_facts.Given as goal

-- those passed are told
abbrev pub invariant-loop-fact : goal.invariant-loop-fact
invariant-loop-fact l = l.text.items ≡ l.initial.text.items ++ flat_map (told_line (lines_of_all l.all)) (map told_of (take l.fact-index l.facts))
