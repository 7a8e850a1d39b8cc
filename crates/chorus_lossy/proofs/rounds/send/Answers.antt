use Rattle.std.proofs.Common.{◌≡◌, ◌<◌, ◌-◌, length, subst, arith}
use Rattle.chorus_transport.specs.Sending.{next_number}
use Rattle.chorus_lossy.specs.Line.{ends}
use Rattle.chorus_lossy.specs.Rounds.{emissions}
use Rattle.chorus_lossy.specs.Running.{IsAt}
use Rattle.chorus_lossy.proofs.Running.{on_err, emissions_failed, emissions_step, emissions_all}
use Rattle.chorus_lossy.proofs.rounds.send.Goals as goal

pub returns-in_err-emit-clause-err : goal.returns-in_err-emit-clause-err
returns-in_err-emit-clause-err c = λ m e.
    let s = c.args.sender.now in
    let below : c.loop-number.number < next_number s = omega (arith, c.next-number-end.ensures.value) in
    let so_far = emissions c.args.round s.base (c.loop-number.number - s.base) m in
    on_err c.from_residual.result
    (emissions_failed c.args.round c.loop-number.number m c.args.run.now s c.args.receiver.now (ends s c.emit.new.receiver) e c.loop-number.invariant.above below
    (c.in_err-emit.ensures.err so_far (c.loop-number.invariant.at m e)))

pub loop-number-preserved : goal.loop-number-preserved
loop-number-preserved c =
    let s = c.args.sender.now in
    let inv = c.loop-number.invariant in
    record {
      at = λ m e.
          emissions_step c.args.round c.loop-number.number m c.emit.new.run s c.emit.new.receiver inv.above
          (c.in_ok-emit.ensures.ok (emissions c.args.round s.base (c.loop-number.number - s.base) m) (inv.at m e));
      above = omega (arith, inv.above);
      emitted = omega (arith, inv.above, inv.emitted, c.emit.ensures.emitted);
      lost = omega (arith, inv.above, inv.lost, c.emit.ensures.lost);
      held = c.in_ok-emit.ensures.held;
    }

pub returns-clause-ok : goal.returns-clause-ok
returns-clause-ok c = λ m e.
    let s = c.args.sender.now in
    let inv = c.loop-number.invariant in
    let k = c.loop-number.number - s.base in
    let all : k ≡ length s.kept = omega (arith, inv.above, c.next-number-end.ensures.value, c.base-number.ensures) in
    subst (λ x. IsAt x c.loop-number.run s c.loop-number.receiver) (emissions_all c.args.round k m c.args.run.now s c.args.receiver.now e all) (inv.at m e)
