use Rattle.std.proofs.Common.{ℕ, List, [], ◌∷◌, ◌++◌, reverse, refl, ◌∙◌, ap, subst}
use Rattle.law_explore.specs.declared.moves.Move.{Move}
use Rattle.explore_report.specs.Findings.{Counts}
use Rattle.chorus_explore.specs.Stages.{moves_of}
use Rattle.chorus_explore.proofs.HistoriesTold.{told-behind}
use Rattle.chorus_explore.proofs.ToldBeside.{counts-one}
use Rattle.chorus_explore.proofs.drawn_outcomes.Outcomes.tell.Goals as goal

pub returns-clause-tells : goal.returns-clause-tells
returns-clause-tells c =
    let scene = c.args.scenario.now in
    let old = c.args.explored.now.findings.items.items in
    let new = c.add.new.self.items.items in
    counts-one scene (moves_of c.args.stage) c.args.explored.now _
    (subst (λ (text : List ℕ). Counts text (moves_of c.args.stage) 1 old new)
    (c.in_ok-text.ensures.text c.requires.asks)
    (subst (λ (ms : List Move). Counts c.in_ok-text.text.items (reverse ms) 1 old new)
    (c.deref-2.ensures.value ∙ c.in_ok-moves.ensures.items ∙ c.deref.ensures.value) c.in_ok-add.ensures.counts))
    c.in_ok-add.ensures.sums c.saturating_add-explored.ensures refl (refl, refl)

pub returns-clause-told : goal.returns-clause-told
returns-clause-told c =
    told-behind c.args.self.now.told.items c.push_reserved.new.self.items c.in_ok-moves.moves c.args.stage.moves.items
    (c.push_reserved.ensures.items ∙ ap (λ vs. vs ++ c.in_ok-moves.moves ∷ []) c.in_ok-reserve.ensures.items)
    (c.in_ok-moves.ensures.items ∙ c.deref.ensures.value)
