use Rattle.std.proofs.Common.{◌∙◌}
use Rattle.chorus_perform.proofs.Steps.{goes-none}
use Rattle.chorus_perform.proofs.pumping.sweep.Goals as goal

pub returns-in_err-visit-clause-goes : goal.returns-in_err-visit-clause-goes
returns-in_err-visit-clause-goes g c = goes-none c.args.pass.now c.loop-index.pass c.pump_due.new.pass c.loop-index.invariant.1 c.pump_due.ensures.goes

pub loop-index-preserved : goal.loop-index-preserved
loop-index-preserved g c = (c.pump_due.ensures.pass, goes-none c.args.pass.now c.loop-index.pass c.pump_due.new.pass c.loop-index.invariant.1 c.pump_due.ensures.goes, c.in_ok-visit.ensures.unworn ∙ c.loop-index.invariant.2)
