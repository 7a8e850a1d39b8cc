use Rattle.std.proofs.Common.{◌≡◌, ◌++◌, take}
use Rattle.std.specs.List.{flat_map}
use Rattle.chorus_merge.specs.Steps.{journals_of}
use Rattle.explore_report.specs.Outcomes.{made_lines}
use Rattle.explore_report.proofs.outcomes.push_all_ports.Given as goal

-- those of the journals passed are told
abbrev pub invariant-loop-journal : goal.invariant-loop-journal
invariant-loop-journal l = l.text.items ≡ l.initial.text.items ++ flat_map (made_lines l.ports) (journals_of (take l.journal-index l.journals))
