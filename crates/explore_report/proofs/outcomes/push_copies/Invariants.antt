use Rattle.std.proofs.Common.{◌≡◌, ◌++◌, take}
use Rattle.chorus_merge.specs.Steps.{journals_of}
use Rattle.explore_report.specs.Outcomes.{chosen_lines}
use Rattle.explore_report.proofs.outcomes.push_copies.Given as goal

-- those of the entries passed are told
abbrev pub invariant-loop-entry : goal.invariant-loop-entry
invariant-loop-entry l = l.text.items ≡ l.initial.text.items ++ chosen_lines l.id (journals_of l.journals) (take l.entry-index l.journal)
