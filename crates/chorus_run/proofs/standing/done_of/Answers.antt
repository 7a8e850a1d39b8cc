use Rattle.std.proofs.Common.{◌+◌, ◌∙◌, sym, subst, take, take_all, arith}
use Rattle.chorus_merge.specs.Steps.{lent}
use Rattle.chorus_scene.specs.Scene.{is_await}
use Rattle.law_awaits.specs.Awaits.{is_taken}
use Rattle.chorus_run.specs.Standing.{Did}
use Rattle.chorus_run.proofs.Countings.{did-none, did-one, did-other, lent-more, not-missed}
use Rattle.chorus_run.proofs.standing.done_of.Goals as goal
use Rattle.chorus_run.proofs.standing.done_of.Goals.{then-is_own+else-is_missed, else-is_own}

pub loop-index-init : goal.loop-index-init
loop-index-init c = (did-none c.args.script.now.waits c.args.number, omega arith)

pub loop-index-preserved : goal.loop-index-preserved
loop-index-preserved c =
    let script = c.args.script.now in
    let k = c.args.number in
    let all = c.args.entries.now in
    let i = c.loop-index.index in
    let entry = c.index-entries-index.result in
    let done = c.loop-index.done in
    let more = lent-more all i entry c.loop-index-test.true c.index-entries-index.is in
    elim c.if-is_own.branch [
      | then-is_own+else-is_missed w ↦ (
        subst (λ n. Did script.waits k (lent (take (i + 1) all)) n) (sym w.done-is)
            (subst (λ es. Did script.waits k es (done + 1)) (sym more)
            (did-one script.waits k done (lent (take i all)) entry.now c.loop-index.invariant.0 (sym c.is_own.ensures ∙ w.if-is_own.true)
            (not-missed (is_await script.waits done) (is_taken entry.now.act) w.is_missed.result w.is_missed.ensures w.if-is_missed.false))),
        omega (arith, w.done-is, c.loop-index.invariant.1),
      )
      | else-is_own w ↦ (
        subst (λ n. Did script.waits k (lent (take (i + 1) all)) n) (sym w.done-is)
            (subst (λ es. Did script.waits k es done) (sym more) (did-other script.waits k done (lent (take i all)) entry.now c.loop-index.invariant.0 (sym c.is_own.ensures ∙ w.if-is_own.false))),
        omega (arith, w.done-is, c.loop-index.invariant.1),
      )
    ]

pub returns : goal.returns
returns c =
    subst (λ es. Did c.args.script.now.waits c.args.number (lent es) c.loop-index.done) (take_all c.loop-index.index c.args.entries.now (omega (arith, c.loop-index-test.false))) c.loop-index.invariant.0
