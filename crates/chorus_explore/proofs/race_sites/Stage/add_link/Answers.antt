use Rattle.std.proofs.Common.{◌≡◌, true, sym, ap, ◌∙◌, arith}
use Rattle.std.proofs.lemmas.Bool.{ne_eqb}
use Rattle.chorus_ui.specs.Layout.{has_place}
use Rattle.chorus_ui.specs.declared.layout.Layout.{Layout}
use Rattle.chorus_explore.proofs.Adding.{carry-added}
use Rattle.chorus_explore.proofs.Moving.{layout-at}
use Rattle.chorus_explore.proofs.race_sites.Stage.add_link.Goals as goal

pub waits-requires-clause-from : goal.waits-requires-clause-from
waits-requires-clause-from c = ap (λ (l : Layout). has_place l c.args.from) (layout-at c.args.scenario.now c.args.self.now c.requires.reached) ∙ c.requires.from

pub waits-requires-clause-to : goal.waits-requires-clause-to
waits-requires-clause-to c = ap (λ (l : Layout). has_place l c.args.to) (layout-at c.args.scenario.now c.args.self.now c.requires.reached) ∙ c.requires.to

pub returns-clause-items : goal.returns-clause-items
returns-clause-items c =
    let waits : c.waits.result ≡ true = grind (arith, c.if-not-waits.false) in
    carry-added c.args.scenario.now c.args.self.now c.requires.reached c.args.from c.args.to c.args.moves.now.items c.push.new.self.items
    c.requires.from c.requires.to (ne_eqb c.args.from c.args.to c.if-from-to.false) (sym c.waits.ensures.value ∙ waits) c.in_ok-push.ensures.items
