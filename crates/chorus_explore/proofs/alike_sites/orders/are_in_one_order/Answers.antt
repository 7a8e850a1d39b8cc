use Rattle.std.proofs.Common.{arith}
use Rattle.chorus_explore.proofs.AlikeSites.Orders.{in-one-order}
use Rattle.chorus_explore.proofs.alike_sites.orders.are_in_one_order.Goals as goal

pub returns : goal.returns
returns c = λ e.
    in-one-order c.args.one.now c.args.other.now (c.in_ok-agree_on_all.ensures (grind (arith, c.if-not-branch.false))) (c.in_ok-back.ensures e)
