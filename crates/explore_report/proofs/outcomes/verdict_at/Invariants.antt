use Rattle.std.proofs.Common.{◌≡◌, reverse, take}
use Rattle.chorus_world.specs.Messages.{verdict}
use Rattle.explore_report.proofs.outcomes.verdict_at.Given as goal

-- it is the verdict that the entries passed tell
abbrev pub invariant-loop-entry : goal.invariant-loop-entry
invariant-loop-entry l = l.found ≡ verdict l.id (reverse (take l.entry-index l.journal))
