use Rattle.chorus_sessions.proofs.Playing.{made-next}
use Rattle.chorus_sessions.proofs.Steps.{goes-then}
use Rattle.chorus_sessions.proofs.setup.make_ports.Goals as goal

pub loop-index-preserved : goal.loop-index-preserved
loop-index-preserved c =
    let n = c.args.nucleus.now in
    let first = c.args.pass.now in
    let i = c.loop-index.invariant in (
      goes-then n first c.loop-index.pass c.make_port.new.pass i.0 c.make_port.ensures.goes,
      made-next n c.args.ports.now c.loop-index.index _ _ first c.loop-index.pass c.make_port.new.pass c.loop-index-test.true c.index-ports-index.is i.1 c.in_ok-make_port.ensures.made,
    )

pub returns-in_err-make_port-clause-goes : goal.returns-in_err-make_port-clause-goes
returns-in_err-make_port-clause-goes c = goes-then c.args.nucleus.now c.args.pass.now c.loop-index.pass c.make_port.new.pass c.loop-index.invariant.0 c.make_port.ensures.goes
