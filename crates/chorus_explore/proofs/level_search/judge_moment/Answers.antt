use Rattle.std.proofs.Common.{false, not, List, reverse, refl, sym, ◌∙◌, ap, subst}
use Rattle.std.proofs.lemmas.Bool.{false≢true}
use Rattle.std.proofs.lemmas.Result.{on_ok_weaker}
use Rattle.explore_report.specs.declared.judgements.Judgement.{Judgement}
use Rattle.explore_report.specs.Judgements.{JudgesAll}
use Rattle.chorus_explore.specs.Stages.{facts_at, moves_of}
use Rattle.chorus_explore.proofs.level_search.judge_moment.Goals.{then-asked-via-then-asked, then-asked-via-else-asked+then-not-want_moments}
use Rattle.chorus_explore.proofs.level_search.judge_moment.Goals as goal

pub returns-then-asked : goal.returns-then-asked
returns-then-asked c =
    elim c.then-asked.branch [
      | then-asked-via-then-asked w ↦ λ yes. absurd (false≢true (sym (ap not w.if-asked.true) ∙ yes))
      | then-asked-via-else-asked+then-not-want_moments w ↦
          (let text = facts_at c.args.scenario.now (moves_of c.args.stage.now) in
          λ yes. subst (λ (js : List Judgement). JudgesAll false c.args.asked.now.claims.now text (moves_of c.args.stage.now) js js) w.deref.ensures.value
          (w.if-not-want_moments.ensures.judges refl text (moves_of c.args.stage.now)))
    ]

pub returns : goal.returns
returns c =
    let claims = c.args.asked.now.claims.now in
    on_ok_weaker c.judge_all.result
    (λ judges yes.
    subst (λ xs. JudgesAll false claims xs (moves_of c.args.stage.now) c.args.judged.now.items c.judge_all.new.judged.items) (c.deref-2.ensures.value ∙ c.in_ok-text.ensures)
    (subst (λ ms. JudgesAll false claims c.deref-2.result.now (reverse ms) c.args.judged.now.items c.judge_all.new.judged.items) c.deref-3.ensures.value judges))
    c.judge_all.ensures.judges
