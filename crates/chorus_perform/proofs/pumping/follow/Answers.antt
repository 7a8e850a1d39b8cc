use Rattle.std.proofs.Common.{◌∙◌}
use Rattle.chorus_perform.proofs.Steps.{goes-none}
use Rattle.chorus_perform.proofs.pumping.follow.Goals as goal

pub returns-in_err-visit-clause-goes : goal.returns-in_err-visit-clause-goes
returns-in_err-visit-clause-goes g c = goes-none c.args.pass.now c.loop-hop.pass c.stay_at-in-loop-hop.new.pass c.loop-hop.invariant.1 c.stay_at-in-loop-hop.ensures.goes

pub loop-hop-preserved : goal.loop-hop-preserved
loop-hop-preserved g c = (c.stay_at-in-loop-hop.ensures.pass, goes-none c.args.pass.now c.loop-hop.pass c.stay_at-in-loop-hop.new.pass c.loop-hop.invariant.1 c.stay_at-in-loop-hop.ensures.goes, c.in_ok-visit.ensures.unworn ∙ c.loop-hop.invariant.2)
