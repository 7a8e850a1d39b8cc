use Rattle.std.proofs.Common.{◌∙◌}
use Rattle.chorus_perform.proofs.Steps.{goes-none}
use Rattle.chorus_perform.proofs.rounds.settle.Goals as goal

pub returns-in_err-work_off-clause-goes : goal.returns-in_err-work_off-clause-goes
returns-in_err-work_off-clause-goes g c = goes-none c.args.pass.now c.loop.pass c.work_off.new.pass c.loop.invariant.1 c.work_off.ensures.goes

pub returns-in_err-round-clause-goes : goal.returns-in_err-round-clause-goes
returns-in_err-round-clause-goes g c =
    goes-none c.args.pass.now c.work_off.new.pass c.round.new.pass (goes-none c.args.pass.now c.loop.pass c.work_off.new.pass c.loop.invariant.1 c.work_off.ensures.goes) c.round.ensures.goes

pub returns-then-branch-clause-goes : goal.returns-then-branch-clause-goes
returns-then-branch-clause-goes g c =
    goes-none c.args.pass.now c.work_off.new.pass c.round.new.pass (goes-none c.args.pass.now c.loop.pass c.work_off.new.pass c.loop.invariant.1 c.work_off.ensures.goes) c.round.ensures.goes

pub loop-preserved : goal.loop-preserved
loop-preserved g c = (
  c.round.ensures.pass,
  goes-none c.args.pass.now c.work_off.new.pass c.round.new.pass (goes-none c.args.pass.now c.loop.pass c.work_off.new.pass c.loop.invariant.1 c.work_off.ensures.goes) c.round.ensures.goes,
  c.in_ok-round.ensures.unworn ∙ (c.in_ok-work_off.ensures.unworn ∙ c.loop.invariant.2),
)

pub returns-then-branch-clause-unworn : goal.returns-then-branch-clause-unworn
returns-then-branch-clause-unworn g c = c.in_ok-round.ensures.unworn ∙ (c.in_ok-work_off.ensures.unworn ∙ c.loop.invariant.2)
