use Rattle.std.proofs.Common.{◌++◌, refl, sym, ◌∙◌, ap}
use Rattle.chorus_lossy.proofs.Running.{on_err, none_of, delivering_begins, delivering_next, delivered_all, delivered_between, less_ready}
use Rattle.chorus_lossy.proofs.rounds.deliver.Goals as goal

pub loop-chunk-init : goal.loop-chunk-init
loop-chunk-init c = record { so_far = λ m s e. delivering_begins m c.args.run.now s c.args.receiver.now e; held = refl; lost = refl }

pub returns-in_err-extend_from_slice-clause-err : goal.returns-in_err-extend_from_slice-clause-err
returns-in_err-extend_from_slice-clause-err c = λ m s e.
    on_err c.from_residual.result
    (delivered_between m c.loop-chunk.run s c.loop-chunk.receiver c.next.new.self c.in-Some.chunk (c.loop-chunk.invariant.so_far m s e) (sym c.next.ensures.value ∙ c.in-Some.is) c.next.ensures.after)

pub loop-chunk-smaller : goal.loop-chunk-smaller
loop-chunk-smaller c = less_ready c.loop-chunk.receiver c.next.new.self c.in-Some.chunk (sym c.next.ensures.value ∙ c.in-Some.is) c.next.ensures.after

pub loop-chunk-preserved : goal.loop-chunk-preserved
loop-chunk-preserved c =
    let run = c.loop-chunk.run in
    record {
      so_far = λ m s e.
          delivering_next m run (record run { delivered = c.extend_from_slice.new.self }) s c.loop-chunk.receiver c.next.new.self c.in-Some.chunk (c.loop-chunk.invariant.so_far m s e)
          (sym c.next.ensures.value ∙ c.in-Some.is) c.next.ensures.after refl (c.in_ok-extend_from_slice.ensures.items ∙ ap (λ b. run.delivered.items ++ b) c.bytes.ensures);
      held = c.loop-chunk.invariant.held;
      lost = c.loop-chunk.invariant.lost;
    }

pub returns-clause-ok : goal.returns-clause-ok
returns-clause-ok c = λ m s e.
    delivered_all m c.loop-chunk.run s c.loop-chunk.receiver c.next.new.self (c.loop-chunk.invariant.so_far m s e)
    (sym c.next.ensures.value ∙ none_of c.next.result c.in_default.not-Some) c.next.ensures.after
