use Rattle.std.proofs.Common.{true, reverse, ◌∙◌, subst}
use Rattle.std.proofs.lemmas.Result.{on_ok_weaker}
use Rattle.explore_report.specs.Judgements.{JudgesAll}
use Rattle.chorus_explore.specs.Stages.{moves_of}
use Rattle.chorus_explore.proofs.level_search.judge_end.Goals as goal

pub returns : goal.returns
returns c =
    let claims = c.args.asked.now.claims.now in
    on_ok_weaker c.judge_all.result
    (λ judges yes.
    subst (λ xs. JudgesAll true claims xs (moves_of c.args.stage.now) c.args.judged.now.items c.judge_all.new.judged.items) (c.deref.ensures.value ∙ c.in_ok-text.ensures)
    (subst (λ ms. JudgesAll true claims c.deref.result.now (reverse ms) c.args.judged.now.items c.judge_all.new.judged.items) c.deref-2.ensures.value judges))
    c.judge_all.ensures.judges
