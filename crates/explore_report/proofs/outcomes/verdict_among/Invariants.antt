use Rattle.std.proofs.Common.{◌≡◌, drop}
use Rattle.std.specs.Option.{option_or}
use Rattle.chorus_merge.specs.Steps.{journals_of}
use Rattle.explore_report.specs.Outcomes.{verdict_among}
use Rattle.explore_report.proofs.outcomes.verdict_among.Given as goal

-- the journals that are left decide where none was found
abbrev pub invariant-loop-journal : goal.invariant-loop-journal
invariant-loop-journal l = option_or l.found (verdict_among l.id (journals_of (drop l.journal-index l.journals))) ≡ verdict_among l.id (journals_of l.journals)
