use Rattle.std.proofs.Common.{◌≡◌, false, List, refl, sym, subst, arith}
use Rattle.explore_report.specs.declared.judgements.Judgement.{Judgement}
use Rattle.explore_report.specs.Judgements.{KeepFirst}
use Rattle.chorus_explore.specs.Stages.{facts_at, moves_of}
use Rattle.chorus_explore.proofs.drawing.ask.Goals as goal

pub returns-then-not-want_moments : goal.returns-then-not-want_moments
returns-then-not-want_moments c =
    let ms = moves_of c.args.stage.now in
    let text = facts_at c.args.scenario.now ms in
    let claims = c.args.claims.now in
    let judged = c.args.judged.now.items in
    let goes_on : c.args.is_end ≡ false = grind (arith, c.if-not-is_end.true) in
    subst (λ b. KeepFirst b claims text ms judged judged) (sym goes_on)
    (subst (λ (js : List Judgement). KeepFirst false claims text ms js js) c.deref.ensures.value (c.if-not-want_moments.ensures.keeps refl text ms))
