use Rattle.place_unsettled.specs.Queues.{queue}
use Rattle.chorus_explore.proofs.AlikeSites.Lists.{SameBelow}
use Rattle.chorus_explore.proofs.alike_sites.hints_and_waits.is_same_queue.Given as goal

-- those passed are the same
abbrev pub invariant-loop-at : goal.invariant-loop-at
invariant-loop-at l = SameBelow (queue l.one l.key).waits (queue l.other l.key).waits l.at
