use Rattle.std.proofs.Common.{arith}
use Rattle.chorus_explore.proofs.AlikeSites.Lists.{same-up-to}
use Rattle.chorus_explore.proofs.alike_sites.orders.are_same_accepts.Goals as goal

pub returns : goal.returns
returns c = λ e.
    same-up-to c.args.one.now c.args.other.now c.loop-at.at
    (let a = c.if-one-other.false in omega (arith, a))
    (let t = c.loop-at-test.false in omega (arith, t))
    c.loop-at.invariant
