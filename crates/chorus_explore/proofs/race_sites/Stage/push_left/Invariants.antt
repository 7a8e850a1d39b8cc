use Rattle.chorus_explore.proofs.Facts.{Completes}
use Rattle.chorus_explore.proofs.race_sites.Stage.push_left.Given as goal

-- the next commands of the scripts that are left complete the text
abbrev pub invariant-loop-index : goal.invariant-loop-index
invariant-loop-index l = Completes l.scenario l.self l.ended l.text.items l.initial.text.items l.index
