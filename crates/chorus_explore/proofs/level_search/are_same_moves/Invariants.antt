use Rattle.chorus_explore.proofs.AlikeSites.Lists.{SameBelow}
use Rattle.chorus_explore.proofs.level_search.are_same_moves.Given as goal

-- those passed are the same
abbrev pub invariant-loop-index : goal.invariant-loop-index
invariant-loop-index l = SameBelow l.one l.other l.index
