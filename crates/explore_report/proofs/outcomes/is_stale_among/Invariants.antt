use Rattle.std.proofs.Common.{◌≡◌, drop}
use Rattle.chorus_merge.specs.Steps.{journals_of}
use Rattle.explore_report.specs.Outcomes.{is_stale_among}
use Rattle.explore_report.proofs.outcomes.is_stale_among.Given as goal

-- none of the journals passed tells it
abbrev pub invariant-loop-journal : goal.invariant-loop-journal
invariant-loop-journal l = is_stale_among l.id (journals_of (drop l.journal-index l.journals)) ≡ is_stale_among l.id (journals_of l.journals)
