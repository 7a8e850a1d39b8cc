use Rattle.std.proofs.Common.{◌∙◌}
use Rattle.chorus_perform.proofs.Steps.{goes-none}
use Rattle.chorus_perform.proofs.waiting.stay_on.Goals as goal

pub returns-in_err-work_or_rest-clause-goes : goal.returns-in_err-work_or_rest-clause-goes
returns-in_err-work_or_rest-clause-goes g c = goes-none c.args.pass.now c.loop.pass c.work_or_rest.new.pass c.loop.invariant.1 c.work_or_rest.ensures.goes

pub returns-then-branch-clause-goes : goal.returns-then-branch-clause-goes
returns-then-branch-clause-goes g c = goes-none c.args.pass.now c.loop.pass c.work_or_rest.new.pass c.loop.invariant.1 c.work_or_rest.ensures.goes

pub loop-preserved : goal.loop-preserved
loop-preserved g c = (
  c.work_or_rest.ensures.pass,
  goes-none c.args.pass.now c.loop.pass c.work_or_rest.new.pass c.loop.invariant.1 c.work_or_rest.ensures.goes,
  c.in_ok-work_or_rest.ensures.unworn ∙ c.loop.invariant.2,
)

pub returns-then-branch-clause-unworn : goal.returns-then-branch-clause-unworn
returns-then-branch-clause-unworn g c = c.in_ok-work_or_rest.ensures.unworn ∙ c.loop.invariant.2
