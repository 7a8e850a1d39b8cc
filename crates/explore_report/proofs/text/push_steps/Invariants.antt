use Rattle.std.proofs.Common.{◌≡◌, ◌++◌, take}
use Rattle.std.specs.List.{flat_map}
use Rattle.explore_report.specs.Reports.{step_line}
use Rattle.explore_report.proofs.text.push_steps.Given as goal

-- those passed are told
abbrev pub invariant-loop-mv : goal.invariant-loop-mv
invariant-loop-mv l = l.text.items ≡ l.initial.text.items ++ flat_map step_line (take l.mv-index l.moves)
