use Rattle.std.proofs.Common.{not, List, reverse, ◌∙◌, ap, subst}
use Rattle.law_explore.specs.declared.moves.Move.{Move}
use Rattle.explore_report.specs.Findings.{Counts}
use Rattle.chorus_explore.specs.Stages.{moves_of}
use Rattle.chorus_explore.proofs.level_search.tell_end.Goals as goal

pub returns-clause-counts : goal.returns-clause-counts
returns-clause-counts c = λ tells.
    let old = c.args.findings.now.items.items in
    let new = c.add.new.self.items.items in
    subst (λ text. Counts text (moves_of c.args.stage) c.args.number old new)
    (c.in_ok-text.ensures.text (c.requires.asks ∙ ap not tells))
    (subst (λ (ms : List Move). Counts c.in_ok-text.text.items (reverse ms) c.args.number old new)
    (c.deref-2.ensures.value ∙ c.in_ok-moves.ensures.items ∙ c.deref.ensures.value) c.in_ok-add.ensures.counts)
