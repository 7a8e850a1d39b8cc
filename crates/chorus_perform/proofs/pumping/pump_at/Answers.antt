use Rattle.chorus_perform.proofs.Halts.{serve-unworn, serve-halted}
use Rattle.std.proofs.Common.{◌∙◌}
use Rattle.chorus_perform.proofs.Steps.{goes-none, on-err}
use Rattle.chorus_perform.proofs.pumping.pump_at.Goals as goal

pub returns-in_err-came-clause-goes : goal.returns-in_err-came-clause-goes
returns-in_err-came-clause-goes g c = goes-none c.args.pass.now c.loop-count.pass c.pump.new.pass c.loop-count.invariant.1 c.pump.ensures.goes

pub returns-in-Idle-clause-goes : goal.returns-in-Idle-clause-goes
returns-in-Idle-clause-goes g c = goes-none c.args.pass.now c.loop-count.pass c.pump.new.pass c.loop-count.invariant.1 c.pump.ensures.goes

pub returns-in-Busy-clause-goes : goal.returns-in-Busy-clause-goes
returns-in-Busy-clause-goes g c = goes-none c.args.pass.now c.loop-count.pass c.pump.new.pass c.loop-count.invariant.1 c.pump.ensures.goes

pub loop-count-preserved : goal.loop-count-preserved
loop-count-preserved g c = (
  c.pump.ensures.pass,
  goes-none c.args.pass.now c.loop-count.pass c.pump.new.pass c.loop-count.invariant.1 c.pump.ensures.goes,
  serve-unworn c.args.nucleus.now c.loop-count.pass c.pump.new.pass c.args.place c.in_ok-came.ensures.told.0 c.in_ok-came.ensures.told.1.0 c.in_ok-came.ensures.told.1.1 ∙ c.loop-count.invariant.2,
)

pub returns-in-Idle-clause-unworn : goal.returns-in-Idle-clause-unworn
returns-in-Idle-clause-unworn g c = serve-unworn c.args.nucleus.now c.loop-count.pass c.pump.new.pass c.args.place c.in_ok-came.ensures.told.0 c.in_ok-came.ensures.told.1.0 c.in_ok-came.ensures.told.1.1 ∙ c.loop-count.invariant.2

pub returns-in-Busy-clause-unworn : goal.returns-in-Busy-clause-unworn
returns-in-Busy-clause-unworn g c = serve-unworn c.args.nucleus.now c.loop-count.pass c.pump.new.pass c.args.place c.in_ok-came.ensures.told.0 c.in_ok-came.ensures.told.1.0 c.in_ok-came.ensures.told.1.1 ∙ c.loop-count.invariant.2

pub returns-in_err-came-clause-halted : goal.returns-in_err-came-clause-halted
returns-in_err-came-clause-halted g c = on-err c.from_residual.result _ (serve-halted c.args.nucleus.now c.loop-count.pass c.pump.new.pass c.args.place c.in_err-came.ensures.told.0 c.in_err-came.ensures.told.1.0 c.in_err-came.ensures.told.1.1)
