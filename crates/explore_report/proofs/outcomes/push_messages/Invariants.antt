use Rattle.std.proofs.Common.{◌≡◌, ◌++◌, take}
use Rattle.std.specs.List.{flat_map}
use Rattle.chorus_merge.specs.Steps.{journals_of}
use Rattle.explore_report.specs.Outcomes.{message_lines}
use Rattle.explore_report.proofs.outcomes.push_messages.Given as goal

-- those passed are told
abbrev pub invariant-loop-id : goal.invariant-loop-id
invariant-loop-id l = l.text.items ≡ l.initial.text.items ++ flat_map (message_lines (journals_of l.journals)) (take l.id-index l.ids)
