use Rattle.std.proofs.Common.{◌∙◌}
use Rattle.chorus_perform.proofs.Steps.{goes-none}
use Rattle.chorus_perform.proofs.pumping.sweep_on.Goals as goal

pub returns-in_err-under_way-clause-goes : goal.returns-in_err-under_way-clause-goes
returns-in_err-under_way-clause-goes g c = goes-none c.args.pass.now c.loop.pass c.sweep.new.pass c.loop.invariant.1 c.sweep.ensures.goes

pub returns-then-is_over-clause-goes : goal.returns-then-is_over-clause-goes
returns-then-is_over-clause-goes g c = goes-none c.args.pass.now c.loop.pass c.sweep.new.pass c.loop.invariant.1 c.sweep.ensures.goes

pub returns-in_err-look_round-clause-goes : goal.returns-in_err-look_round-clause-goes
returns-in_err-look_round-clause-goes g c =
    goes-none c.args.pass.now c.sweep.new.pass c.look_round.new.pass (goes-none c.args.pass.now c.loop.pass c.sweep.new.pass c.loop.invariant.1 c.sweep.ensures.goes) c.look_round.ensures.goes

pub loop-preserved-in-Continue-branch-2 : goal.loop-preserved-in-Continue-branch-2
loop-preserved-in-Continue-branch-2 g c = (
  c.look_round.ensures.pass,
  goes-none c.args.pass.now c.sweep.new.pass c.look_round.new.pass (goes-none c.args.pass.now c.loop.pass c.sweep.new.pass c.loop.invariant.1 c.sweep.ensures.goes) c.look_round.ensures.goes,
  c.in_ok-look_round.ensures.unworn ∙ (c.in_ok-under_way.ensures.unworn ∙ c.loop.invariant.2),
)

pub loop-preserved : goal.loop-preserved
loop-preserved g c = (c.sweep.ensures.pass, goes-none c.args.pass.now c.loop.pass c.sweep.new.pass c.loop.invariant.1 c.sweep.ensures.goes, c.in_ok-under_way.ensures.unworn ∙ c.loop.invariant.2)

pub returns-then-is_over-clause-unworn : goal.returns-then-is_over-clause-unworn
returns-then-is_over-clause-unworn g c = c.in_ok-under_way.ensures.unworn ∙ c.loop.invariant.2
