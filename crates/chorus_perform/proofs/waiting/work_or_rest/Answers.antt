use Rattle.std.proofs.Common.{◌∙◌}
use Rattle.chorus_perform.proofs.Steps.{goes-none}
use Rattle.chorus_perform.proofs.waiting.work_or_rest.Goals as goal

pub returns-in_err-under_way-clause-goes : goal.returns-in_err-under_way-clause-goes
returns-in_err-under_way-clause-goes g c = goes-none c.args.pass.now c.pump_at.new.pass c.sweep.new.pass c.pump_at.ensures.goes c.sweep.ensures.goes

pub returns-clause-goes : goal.returns-clause-goes
returns-clause-goes g c = goes-none c.args.pass.now c.pump_at.new.pass c.sweep.new.pass c.pump_at.ensures.goes c.sweep.ensures.goes

pub returns-clause-unworn : goal.returns-clause-unworn
returns-clause-unworn g c = c.in_ok-under_way.ensures.unworn ∙ c.in_ok-home.ensures.unworn
