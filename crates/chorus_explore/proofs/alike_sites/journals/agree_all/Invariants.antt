use Rattle.std.proofs.Common.{take}
use Rattle.chorus_explore.specs.AlikeSites.Journals.{AgreeAll}
use Rattle.chorus_explore.proofs.alike_sites.journals.agree_all.Given as goal

-- they agree on what the entries passed name
abbrev pub invariant-loop-entry : goal.invariant-loop-entry
invariant-loop-entry l = AgreeAll l.one.journal.past l.other.journal.past (take l.entry-index l.entries)
