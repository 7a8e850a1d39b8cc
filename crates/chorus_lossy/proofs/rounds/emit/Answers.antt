use Rattle.std.proofs.Common.{◌≡◌, ⊎_elim, refl, sym, ◌∙◌}
use Rattle.std.proofs.lemmas.Result.{on_ok_weaker, on_err_weaker}
use Rattle.chorus_transport.specs.Receiving.{after_arrival}
use Rattle.chorus_lossy.specs.Rounds.{emission}
use Rattle.chorus_lossy.proofs.Running.{on_err, unchanged, sent_as, lost_unseen, sent_twice, sent_held, sent_once, twice_between}
use Rattle.chorus_lossy.proofs.rounds.emit.Goals as goal

pub returns-then-is_lost-clause-ok : goal.returns-then-is_lost-clause-ok
returns-then-is_lost-clause-ok c = λ m e.
    lost_unseen c.args.round c.args.number c.draw-fate.result m c.args.run.now c.draw-fate.new.run c.args.sender.now c.args.receiver.now e c.requires.may.kept.0 c.requires.may.kept.1 c.draw-fate.ensures.state c.draw-fate.ensures.fate
    (sym c.is_lost.ensures ∙ c.if-is_lost.true)

pub returns-in_err-chunk-clause-err : goal.returns-in_err-chunk-clause-err
returns-in_err-chunk-clause-err c = λ m e. on_err c.from_residual.result (unchanged c.args.round c.args.number m c.args.run.now c.args.sender.now c.args.receiver.now c.args.receiver.now e refl)

pub returns-then-fate-eq1-clause-ok : goal.returns-then-fate-eq1-clause-ok
returns-then-fate-eq1-clause-ok c = λ m e.
    let run = c.draw-fate.new.run in
    let whole = sent_as c.args.round c.args.number c.draw-fate.result m c.args.run.now run c.args.sender.now c.args.receiver.now c.in-Some.chunk e (sym c.in_ok-chunk.ensures.copy ∙ c.in-Some.is) c.draw-fate.ensures.state c.draw-fate.ensures.fate in
    on_ok_weaker c.arrive_twice.result
    (λ is. sent_twice c.args.round c.args.number c.draw-fate.result (emission c.args.round c.args.number m) run c.args.sender.now c.args.receiver.now c.arrive_twice.new.receiver c.in-Some.chunk m.events whole (sym c.is_lost.ensures ∙ c.if-is_lost.false) c.if-fate-eq1.true is)
    c.arrive_twice.ensures.ok

pub returns-then-fate-eq1-clause-err : goal.returns-then-fate-eq1-clause-err
returns-then-fate-eq1-clause-err c = λ m e.
    let run = c.draw-fate.new.run in
    let whole = sent_as c.args.round c.args.number c.draw-fate.result m c.args.run.now run c.args.sender.now c.args.receiver.now c.in-Some.chunk e (sym c.in_ok-chunk.ensures.copy ∙ c.in-Some.is) c.draw-fate.ensures.state c.draw-fate.ensures.fate in
    on_err_weaker c.arrive_twice.result
    (λ h.
    ⊎_elim
    (λ (same : c.arrive_twice.new.receiver ≡ c.args.receiver.now). unchanged c.args.round c.args.number m c.args.run.now c.args.sender.now c.args.receiver.now c.arrive_twice.new.receiver e same)
    (λ (is : c.arrive_twice.new.receiver ≡ after_arrival c.args.receiver.now c.args.number c.in-Some.chunk). twice_between c.args.round c.args.number c.draw-fate.result m c.args.run.now c.args.sender.now c.arrive_twice.new.receiver c.args.receiver.now c.in-Some.chunk e run whole (sym c.is_lost.ensures ∙ c.if-is_lost.false) c.if-fate-eq1.true is)
    h)
    c.arrive_twice.ensures.err

pub returns-in_err-push-clause-err : goal.returns-in_err-push-clause-err
returns-in_err-push-clause-err c = λ m e. on_err c.from_residual-in_err-push.result (unchanged c.args.round c.args.number m c.args.run.now c.args.sender.now c.args.receiver.now c.args.receiver.now e refl)

pub returns-then-fate-eq2-clause-ok : goal.returns-then-fate-eq2-clause-ok
returns-then-fate-eq2-clause-ok c = λ m e.
    let run = c.draw-fate.new.run in
    let whole = sent_as c.args.round c.args.number c.draw-fate.result m c.args.run.now run c.args.sender.now c.args.receiver.now c.in-Some.chunk e (sym c.in_ok-chunk.ensures.copy ∙ c.in-Some.is) c.draw-fate.ensures.state c.draw-fate.ensures.fate in
    sent_held c.args.round c.args.number c.draw-fate.result (emission c.args.round c.args.number m) run (record run { held = c.push.new.self }) c.args.sender.now c.args.receiver.now c.in-Some.chunk m.events whole (sym c.is_lost.ensures ∙ c.if-is_lost.false) c.if-fate-eq2.true refl c.in_ok-push.ensures.items

pub returns-clause-ok : goal.returns-clause-ok
returns-clause-ok c = λ m e.
    let run = c.draw-fate.new.run in
    let whole = sent_as c.args.round c.args.number c.draw-fate.result m c.args.run.now run c.args.sender.now c.args.receiver.now c.in-Some.chunk e (sym c.in_ok-chunk.ensures.copy ∙ c.in-Some.is) c.draw-fate.ensures.state c.draw-fate.ensures.fate in
    on_ok_weaker c.arrive.result
    (λ is. sent_once c.args.round c.args.number c.draw-fate.result (emission c.args.round c.args.number m) run c.args.sender.now c.args.receiver.now c.arrive.new.receiver c.in-Some.chunk m.events whole (sym c.is_lost.ensures ∙ c.if-is_lost.false) c.if-fate-eq1.false c.if-fate-eq2.false is)
    c.arrive.ensures.ok

pub returns-clause-err : goal.returns-clause-err
returns-clause-err c = λ m e.
    on_err_weaker c.arrive.result
    (λ same. unchanged c.args.round c.args.number m c.args.run.now c.args.sender.now c.args.receiver.now c.arrive.new.receiver e same)
    c.arrive.ensures.err
