use Rattle.std.proofs.Common.{◌≡◌, ◌≤◌, sym, ◌∙◌, ap, subst, arith}
use Rattle.chorus_transport.specs.Sending.{Sending, after_put}
use Rattle.chorus_lossy.specs.Line.{ends, chunk_at}
use Rattle.chorus_lossy.specs.Rounds.{filled}
use Rattle.chorus_lossy.specs.Running.{IsAt, IsBetween}
use Rattle.chorus_lossy.proofs.Running.{on_err, puts_between, puts_next, puts_all, put_more}
use Rattle.chorus_lossy.proofs.rounds.fill.Goals as goal

pub returns-in_err-chunk-clause-err : goal.returns-in_err-chunk-clause-err
returns-in_err-chunk-clause-err c = λ m run r e.
    let le : c.loop.counter ≤ c.min-room.result = omega arith in
    on_err c.from_residual.result
    (puts_between c.args.bytes.now c.loop.counter c.min-room.result m run c.loop.sender c.args.sender.now r e c.loop.invariant.room le (c.loop.invariant.at m run r e))

pub returns-in-Err-clause-err : goal.returns-in-Err-clause-err
returns-in-Err-clause-err c = λ m run r e.
    let le : c.loop.counter ≤ c.min-room.result = omega arith in
    subst (λ s. IsBetween m (filled c.args.bytes.now m) (ends s r)) (sym c.in-Err.ensures.err.1)
    (puts_between c.args.bytes.now c.loop.counter c.min-room.result m run c.loop.sender c.args.sender.now r e c.loop.invariant.room le (c.loop.invariant.at m run r e))

pub loop-preserved : goal.loop-preserved
loop-preserved c =
    let is = c.in_ok-chunk.ensures ∙ ap (chunk_at c.args.bytes.now) c.next-in-loop.ensures.value in
    record {
      at = λ m run r e. puts_next c.args.bytes.now c.loop.counter m run c.loop.sender c.put.new.self r (c.loop.invariant.at m run r e) (c.in-Ok.ensures.ok ∙ ap (after_put c.loop.sender) is);
      next = omega (arith, put_more c.loop.sender c.put.new.self c.in_ok-chunk.chunk c.in-Ok.ensures.ok, c.loop.invariant.next);
      window = ap (λ (s : Sending). s.window) c.in-Ok.ensures.ok ∙ c.loop.invariant.window;
      room = c.loop.invariant.room;
    }

pub returns-clause-ok : goal.returns-clause-ok
returns-clause-ok c = λ m run r e.
    let all : c.loop.counter ≡ c.min-room.result = omega arith in
    subst (λ x. IsAt x run c.loop.sender r) (puts_all c.args.bytes.now c.loop.counter m run c.args.sender.now r e (all ∙ c.loop.invariant.room)) (c.loop.invariant.at m run r e)
