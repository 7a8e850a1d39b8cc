use Rattle.std.proofs.Common.{◌≡◌, ◌+◌, ◌++◌, drop}
use Rattle.chorus_merge.specs.Steps.{journals_of}
use Rattle.chorus_world.specs.Places.{copies}
use Rattle.explore_report.specs.Outcomes.{sent_lines}
use Rattle.explore_report.proofs.outcomes.push_each_copy.Given as goal

-- what is left completes the lines
abbrev pub invariant-loop-index : goal.invariant-loop-index
invariant-loop-index l = l.text.items ++ sent_lines (journals_of l.journals) (copies l.id l.fn.group (l.index + 1) (drop l.index l.members)) ≡ l.initial.text.items ++ sent_lines (journals_of l.journals) (copies l.id l.fn.group 1 l.members)
