use Rattle.chorus_perform.proofs.Halts.{unworn-then}
use Rattle.chorus_perform.proofs.Steps.{goes-none}
use Rattle.chorus_perform.proofs.pumping.pump_on.Goals as goal

pub returns-clause-goes : goal.returns-clause-goes
returns-clause-goes g c = goes-none c.args.pass.now c.pump_at.new.pass c.sweep_on.new.pass c.pump_at.ensures.goes c.sweep_on.ensures.goes

pub returns-clause-unworn : goal.returns-clause-unworn
returns-clause-unworn g c = unworn-then c.args.pass.now c.pump_at.new.pass c.sweep_on.new.pass c.sweep_on.result c.in_ok-pump_at.ensures.unworn c.sweep_on.ensures.unworn
