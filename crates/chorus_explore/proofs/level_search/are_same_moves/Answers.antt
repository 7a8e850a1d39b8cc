use Rattle.std.proofs.Common.{arith}
use Rattle.chorus_explore.proofs.AlikeSites.Lists.{same-up-to}
use Rattle.chorus_explore.proofs.level_search.are_same_moves.Goals as goal

pub returns-clause-yes : goal.returns-clause-yes
returns-clause-yes c = λ e.
    same-up-to c.args.one.now c.args.other.now c.loop-index.index
    (let a = c.if-one-other.false in omega (arith, a))
    (let t = c.loop-index-test.false in omega (arith, t))
    c.loop-index.invariant
