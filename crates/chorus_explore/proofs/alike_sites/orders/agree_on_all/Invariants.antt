use Rattle.std.proofs.Common.{reverse, take}
use Rattle.chorus_explore.specs.AlikeSites.Orders.{AgreeOnAll}
use Rattle.chorus_explore.proofs.alike_sites.orders.agree_on_all.Given as goal

-- they agree on the entries passed
abbrev pub invariant-loop-entry : goal.invariant-loop-entry
invariant-loop-entry l = AgreeOnAll (reverse l.one) (reverse l.other) (take l.entry-index l.entries)
