use Rattle.std.proofs.Common.{◌≡◌, ◌≢◌, ◌-◌, length, subst, arith}
use Rattle.chorus_lossy.specs.Line.{ends}
use Rattle.chorus_lossy.specs.Rounds.{after_rounds}
use Rattle.chorus_lossy.specs.Running.{IsAt}
use Rattle.chorus_lossy.proofs.Running.{on_err}
use Rattle.chorus_lossy.proofs.Promised.{opens, open_at, next_round, failed_within, ready_at, final_at}
use Rattle.chorus_lossy.proofs.carrying.carry.Goals as goal

pub loop-alloc-init : goal.loop-alloc-init
loop-alloc-init c =
    let made = c.new-run.ensures in
    record {
      from = omega arith;
      soon = omega arith;
      at = opens c.args.first c.args.bytes.now c.new-run.result c.args.sender.now c.args.receiver.now c.requires made.state made.held made.delivered made.emitted made.lost;
      none = made.held;
    }

pub play-requires-clause-window : goal.play-requires-clause-window
play-requires-clause-window c =
    let first = c.args.first in
    let bytes = c.args.bytes.now in
    let n = c.loop-alloc.round in
    let run = c.loop-alloc.run in
    let s = c.loop-alloc.sender in
    let r = c.loop-alloc.receiver in
    let inv = c.loop-alloc.invariant in
    let other : length run.delivered.items ≢ length bytes = λ same. omega (arith, run.delivered.ok.0) in
    let ready = ready_at first bytes n run s r inv.from inv.at other in
    ready.window

pub play-requires-clause-emitted : goal.play-requires-clause-emitted
play-requires-clause-emitted c =
    let first = c.args.first in
    let bytes = c.args.bytes.now in
    let n = c.loop-alloc.round in
    let run = c.loop-alloc.run in
    let s = c.loop-alloc.sender in
    let r = c.loop-alloc.receiver in
    let inv = c.loop-alloc.invariant in
    let other : length run.delivered.items ≢ length bytes = λ same. omega (arith, run.delivered.ok.0) in
    let ready = ready_at first bytes n run s r inv.from inv.at other in
    omega (arith, ready.emitted, ready.few, inv.from)

pub play-requires-clause-lost : goal.play-requires-clause-lost
play-requires-clause-lost c =
    let first = c.args.first in
    let bytes = c.args.bytes.now in
    let n = c.loop-alloc.round in
    let run = c.loop-alloc.run in
    let s = c.loop-alloc.sender in
    let r = c.loop-alloc.receiver in
    let inv = c.loop-alloc.invariant in
    let other : length run.delivered.items ≢ length bytes = λ same. omega (arith, run.delivered.ok.0) in
    let ready = ready_at first bytes n run s r inv.from inv.at other in
    omega (arith, ready.lost, ready.few, inv.from)

pub returns-in_err-play-clause-memory : goal.returns-in_err-play-clause-memory
returns-in_err-play-clause-memory c =
    let first = c.args.first in
    let bytes = c.args.bytes.now in
    let n = c.loop-alloc.round in
    let run = c.loop-alloc.run in
    let s = c.loop-alloc.sender in
    let r = c.loop-alloc.receiver in
    let inv = c.loop-alloc.invariant in
    let other : length run.delivered.items ≢ length bytes = λ same. omega (arith, run.delivered.ok.0) in
    let more = open_at bytes (after_rounds first bytes (n - 1)) run s r inv.at other in
    on_err c.from_residual.result
    (failed_within first bytes n (ends c.play.new.sender c.play.new.receiver) inv.from more (c.in_err-play.ensures.err (after_rounds first bytes (n - 1)) inv.at))

pub overflow_add-round : goal.overflow_add-round
overflow_add-round c =
    let first = c.args.first in
    let bytes = c.args.bytes.now in
    let n = c.loop-alloc.round in
    let run = c.loop-alloc.run in
    let s = c.loop-alloc.sender in
    let r = c.loop-alloc.receiver in
    let inv = c.loop-alloc.invariant in
    let other : length run.delivered.items ≢ length bytes = λ same. omega (arith, run.delivered.ok.0) in
    let ready = ready_at first bytes n run s r inv.from inv.at other in
    omega (arith, ready.few)

pub loop-alloc-smaller : goal.loop-alloc-smaller
loop-alloc-smaller c =
    let first = c.args.first in
    let bytes = c.args.bytes.now in
    let n = c.loop-alloc.round in
    let run = c.loop-alloc.run in
    let s = c.loop-alloc.sender in
    let r = c.loop-alloc.receiver in
    let inv = c.loop-alloc.invariant in
    let other : length run.delivered.items ≢ length bytes = λ same. omega (arith, run.delivered.ok.0) in
    let ready = ready_at first bytes n run s r inv.from inv.at other in
    omega (arith, ready.few)

pub loop-alloc-preserved : goal.loop-alloc-preserved
loop-alloc-preserved c =
    let first = c.args.first in
    let bytes = c.args.bytes.now in
    let n = c.loop-alloc.round in
    let run = c.loop-alloc.run in
    let s = c.loop-alloc.sender in
    let r = c.loop-alloc.receiver in
    let inv = c.loop-alloc.invariant in
    let other : length run.delivered.items ≢ length bytes = λ same. omega (arith, run.delivered.ok.0) in
    let more = open_at bytes (after_rounds first bytes (n - 1)) run s r inv.at other in
    let ready = ready_at first bytes n run s r inv.from inv.at other in
    record {
      from = omega arith;
      soon = omega (arith, ready.few);
      at = subst (λ x. IsAt x c.play.new.run c.play.new.sender c.play.new.receiver) (next_round first bytes n inv.from more) (c.in_ok-play.ensures.ok (after_rounds first bytes (n - 1)) inv.at);
      none = c.in_ok-play.ensures.held;
    }

pub returns-clause-delivered : goal.returns-clause-delivered
returns-clause-delivered c =
    let first = c.args.first in
    let bytes = c.args.bytes.now in
    let n = c.loop-alloc.round in
    let run = c.loop-alloc.run in
    let s = c.loop-alloc.sender in
    let r = c.loop-alloc.receiver in
    let inv = c.loop-alloc.invariant in
    let same : length run.delivered.items ≡ length bytes = omega (arith, run.delivered.ok.0) in
    let final = final_at first bytes (n - 1) run s r inv.soon inv.at same in
    rw c.carried.ensures.delivered final.delivered

pub returns-clause-put : goal.returns-clause-put
returns-clause-put c =
    let first = c.args.first in
    let bytes = c.args.bytes.now in
    let n = c.loop-alloc.round in
    let run = c.loop-alloc.run in
    let s = c.loop-alloc.sender in
    let r = c.loop-alloc.receiver in
    let inv = c.loop-alloc.invariant in
    let same : length run.delivered.items ≡ length bytes = omega (arith, run.delivered.ok.0) in
    let final = final_at first bytes (n - 1) run s r inv.soon inv.at same in
    final.put

pub returns-clause-acknowledged : goal.returns-clause-acknowledged
returns-clause-acknowledged c =
    let first = c.args.first in
    let bytes = c.args.bytes.now in
    let n = c.loop-alloc.round in
    let run = c.loop-alloc.run in
    let s = c.loop-alloc.sender in
    let r = c.loop-alloc.receiver in
    let inv = c.loop-alloc.invariant in
    let same : length run.delivered.items ≡ length bytes = omega (arith, run.delivered.ok.0) in
    let final = final_at first bytes (n - 1) run s r inv.soon inv.at same in
    final.acknowledged
