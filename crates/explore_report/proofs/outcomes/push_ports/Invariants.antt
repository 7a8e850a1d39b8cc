use Rattle.std.proofs.Common.{◌≡◌, ◌++◌, take}
use Rattle.explore_report.specs.Outcomes.{made_lines}
use Rattle.explore_report.proofs.outcomes.push_ports.Given as goal

-- those of the entries passed are told
abbrev pub invariant-loop-entry : goal.invariant-loop-entry
invariant-loop-entry l = l.text.items ≡ l.initial.text.items ++ made_lines l.ports (take l.entry-index l.journal)
