use Rattle.chorus_sessions.proofs.Delivering.{delivers-none, tries-then}
use Rattle.chorus_sessions.proofs.Steps.{goes-then}
use Rattle.chorus_sessions.proofs.sending.send_until_told.Goals as goal

pub returns-in-Accepted-clause-goes : goal.returns-in-Accepted-clause-goes
returns-in-Accepted-clause-goes g c = goes-then c.args.nucleus.now c.args.pass.now c.loop.pass c.send_once.new.pass c.loop.invariant.0 c.send_once.ensures.goes

pub returns-in-Refused-clause-goes : goal.returns-in-Refused-clause-goes
returns-in-Refused-clause-goes g c = goes-then c.args.nucleus.now c.args.pass.now c.loop.pass c.send_once.new.pass c.loop.invariant.0 c.send_once.ensures.goes

pub returns-then-eq-clause-goes : goal.returns-then-eq-clause-goes
returns-then-eq-clause-goes g c =
    let n = c.args.nucleus.now in
    let first = c.args.pass.now in
    goes-then n first c.send_once.new.pass c.pump_all.new.pass (goes-then n first c.loop.pass c.send_once.new.pass c.loop.invariant.0 c.send_once.ensures.goes) c.pump_all.ensures.goes

pub returns-then-eq-clause-delivers : goal.returns-then-eq-clause-delivers
returns-then-eq-clause-delivers g c =
    let n = c.args.nucleus.now in
    let first = c.args.pass.now in
    delivers-none n c.args.port c.args.body.now first c.pump_all.new.pass
    (tries-then n c.args.port c.args.body.now first c.loop.pass c.send_once.new.pass c.pump_all.new.pass c.loop.invariant.1 c.in-Again.ensures.told c.pump_all.ensures.pumps)

pub loop-preserved : goal.loop-preserved
loop-preserved g c =
    let n = c.args.nucleus.now in
    let first = c.args.pass.now in (
      goes-then n first c.send_once.new.pass c.pump_all.new.pass (goes-then n first c.loop.pass c.send_once.new.pass c.loop.invariant.0 c.send_once.ensures.goes) c.pump_all.ensures.goes,
      tries-then n c.args.port c.args.body.now first c.loop.pass c.send_once.new.pass c.pump_all.new.pass c.loop.invariant.1 c.in-Again.ensures.told c.pump_all.ensures.pumps,
    )
