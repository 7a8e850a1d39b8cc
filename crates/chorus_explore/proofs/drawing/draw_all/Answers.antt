use Rattle.std.proofs.Common.{◌≡◌, ◌++◌, ◌∷◌, [], true, List, refl, subst, arith}
use Rattle.std.specs.List.{All}
use Rattle.std.proofs.lemmas.List.{length-append}
use Rattle.explore_report.specs.declared.judgements.Judgement.{Judgement}
use Rattle.explore_report.specs.Judgements.{has_failed}
use Rattle.chorus_explore.specs.Drawings.{one_drawn}
use Rattle.chorus_explore.proofs.DrawnClaims.{begins, checks-drawn, draws-more}
use Rattle.chorus_explore.proofs.drawing.draw_all.Goals as goal

pub loop-history-init : goal.loop-history-init
loop-history-init c =
    let d = c.in_ok-drawing in
    ([], (begins c.args.scenario.now c.args.claims.now c.args.first d.drawing (d.ensures.asked c.args.scenario.now) d.ensures.none d.ensures.cut d.ensures.state, refl))

pub loop-history-preserved : goal.loop-history-preserved
loop-history-preserved c =
    let inv = c.loop-history.invariant in
    let h = (one_drawn c.args.scenario.now c.loop-history.drawing.state).0 in (
      inv.0 ++ h ∷ [],
      (
        draws-more c.args.scenario.now c.args.claims.now c.args.first inv.0 c.loop-history.drawing c.draw.new.self inv.1.0 c.in_ok-draw.ensures.draws,
        (let long = length-append inv.0 (h ∷ []) in let n = inv.1.1 in omega (arith, long, n)),
      ),
    )

pub returns-then-have_all_failed-clause-checks : goal.returns-then-have_all_failed-clause-checks
returns-then-have_all_failed-clause-checks c =
    let inv = c.loop-history.invariant in
    checks-drawn c.args.scenario.now c.args.claims.now c.args.first c.args.count inv.0 c.loop-history.drawing inv.1.0
    (let lt = c.loop-history-test.true in let n = inv.1.1 in omega (arith, lt, n))
    (λ lt. subst (λ (js : List Judgement). All (λ (j : Judgement). has_failed j ≡ true) js) c.deref.ensures.value (c.have_all_failed.ensures c.if-have_all_failed.true))

pub returns-clause-checks : goal.returns-clause-checks
returns-clause-checks c =
    let inv = c.loop-history.invariant in
    let n = inv.1.1 in
    checks-drawn c.args.scenario.now c.args.claims.now c.args.first c.args.count inv.0 c.loop-history.drawing inv.1.0
    (let most = c.loop-history.auto._history-end in omega (arith, most, n))
    (λ lt. absurd (let end = c.loop-history-test.false in omega (arith, end, lt, n)))
