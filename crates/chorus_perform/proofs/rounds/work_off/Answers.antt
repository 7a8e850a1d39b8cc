use Rattle.std.proofs.Common.{◌∙◌}
use Rattle.chorus_perform.proofs.Steps.{goes-none}
use Rattle.chorus_perform.proofs.rounds.work_off.Goals as goal

pub returns-in_err-pump_at-clause-goes : goal.returns-in_err-pump_at-clause-goes
returns-in_err-pump_at-clause-goes g c = goes-none c.args.pass.now c.loop-index.pass c.pump_at.new.pass c.loop-index.invariant.1 c.pump_at.ensures.goes

pub loop-index-preserved : goal.loop-index-preserved
loop-index-preserved g c = (c.pump_at.ensures.pass, goes-none c.args.pass.now c.loop-index.pass c.pump_at.new.pass c.loop-index.invariant.1 c.pump_at.ensures.goes, c.in_ok-pump_at.ensures.unworn ∙ c.loop-index.invariant.2)
