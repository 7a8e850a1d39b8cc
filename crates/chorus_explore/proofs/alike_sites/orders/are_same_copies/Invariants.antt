use Rattle.chorus_explore.proofs.AlikeSites.Lists.{SameBelow}
use Rattle.chorus_explore.proofs.alike_sites.orders.are_same_copies.Given as goal

-- those passed are the same
abbrev pub invariant-loop-at : goal.invariant-loop-at
invariant-loop-at l = SameBelow l.one l.other l.at
