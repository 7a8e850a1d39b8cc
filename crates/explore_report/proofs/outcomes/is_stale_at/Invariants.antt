use Rattle.std.proofs.Common.{◌≡◌, reverse, take}
use Rattle.law_explore.specs.Outcome.{is_stale_at}
use Rattle.explore_report.proofs.outcomes.is_stale_at.Given as goal

-- it is whether the entries passed tell it
abbrev pub invariant-loop-entry : goal.invariant-loop-entry
invariant-loop-entry l = l.found ≡ is_stale_at l.id (reverse (take l.entry-index l.journal))
