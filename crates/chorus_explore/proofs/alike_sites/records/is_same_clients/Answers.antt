use Rattle.std.proofs.Common.{arith}
use Rattle.chorus_explore.proofs.AlikeSites.Lists.{same-up-to}
use Rattle.chorus_explore.proofs.alike_sites.records.is_same_clients.Goals as goal

pub returns : goal.returns
returns c = λ e.
    same-up-to c.args.one.now c.args.other.now c.loop-at.at
    (let a = c.if-len.false in let b = c.len.ensures.len in let d = c.len-2.ensures.len in omega (arith, a, b, d))
    (let t = c.loop-at-test.false in let n = c.len-at-end.ensures.len in omega (arith, t, n))
    c.loop-at.invariant
