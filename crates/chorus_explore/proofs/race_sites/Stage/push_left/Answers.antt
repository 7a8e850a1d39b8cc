use Rattle.std.proofs.Common.{length, refl, ap, arith}
use Rattle.chorus_explore.proofs.Facts.{completes-all, completes-next}
use Rattle.chorus_explore.proofs.race_sites.Stage.push_left.Goals as goal

pub loop-index-init : goal.loop-index-init
loop-index-init c = refl

pub loop-index-preserved : goal.loop-index-preserved
loop-index-preserved c =
    let l = c.loop-index in
    completes-next c.args.scenario.now c.args.self.now c.args.ended c.requires l.text.items c.push_left_of.new.text.items c.args.text.now.items l.index
    (let lt = c.loop-index-test.true in let n = ap length c.scripts-index-end.ensures in omega (arith, lt, n)) l.invariant c.in_ok-push_left_of.ensures

pub returns : goal.returns
returns c =
    completes-all c.args.scenario.now c.args.self.now c.args.ended c.loop-index.text.items c.args.text.now.items c.loop-index.index
    (let end = c.loop-index-test.false in let n = ap length c.scripts-index-end.ensures in omega (arith, end, n)) c.loop-index.invariant
