use Rattle.chorus_sessions.proofs.Delivering.{waits-pumped, waits-then}
use Rattle.chorus_sessions.proofs.Steps.{goes-then}
use Rattle.chorus_sessions.proofs.sending.verdict.Goals as goal

pub returns-in-Answer-clause-goes : goal.returns-in-Answer-clause-goes
returns-in-Answer-clause-goes g c = goes-then c.args.nucleus.now c.args.pass.now c.loop.pass c.ask_behind.new.pass c.loop.invariant.0 c.ask_behind.ensures.goes

pub returns-in-Unknown-clause-goes : goal.returns-in-Unknown-clause-goes
returns-in-Unknown-clause-goes g c = goes-then c.args.nucleus.now c.args.pass.now c.loop.pass c.ask_behind.new.pass c.loop.invariant.0 c.ask_behind.ensures.goes

pub returns-in-Unknown-clause-told : goal.returns-in-Unknown-clause-told
returns-in-Unknown-clause-told g c = waits-then c.args.nucleus.now c.args.id c.args.pass.now c.loop.pass c.ask_behind.new.pass c.loop.invariant.1 c.in-Unknown.ensures.hears

pub returns-in-Stuck-clause-goes : goal.returns-in-Stuck-clause-goes
returns-in-Stuck-clause-goes g c =
    let n = c.args.nucleus.now in
    let first = c.args.pass.now in
    goes-then n first c.ask_behind.new.pass c.pump_all.new.pass (goes-then n first c.loop.pass c.ask_behind.new.pass c.loop.invariant.0 c.ask_behind.ensures.goes) c.pump_all.ensures.goes

pub returns-in-Stuck-clause-told : goal.returns-in-Stuck-clause-told
returns-in-Stuck-clause-told g c =
    let n = c.args.nucleus.now in
    let first = c.args.pass.now in
    waits-then n c.args.id first c.ask_behind.new.pass c.pump_all.new.pass
    (waits-then n c.args.id first c.loop.pass c.ask_behind.new.pass c.loop.invariant.1 c.in-Pending.ensures.hears) (waits-pumped n c.args.id c.ask_behind.new.pass c.pump_all.new.pass c.pump_all.ensures.pumps)

pub loop-preserved : goal.loop-preserved
loop-preserved g c =
    let n = c.args.nucleus.now in
    let first = c.args.pass.now in (
      goes-then n first c.ask_behind.new.pass c.pump_all.new.pass (goes-then n first c.loop.pass c.ask_behind.new.pass c.loop.invariant.0 c.ask_behind.ensures.goes) c.pump_all.ensures.goes,
      waits-then n c.args.id first c.ask_behind.new.pass c.pump_all.new.pass
          (waits-then n c.args.id first c.loop.pass c.ask_behind.new.pass c.loop.invariant.1 c.in-Pending.ensures.hears) (waits-pumped n c.args.id c.ask_behind.new.pass c.pump_all.new.pass c.pump_all.ensures.pumps),
    )
