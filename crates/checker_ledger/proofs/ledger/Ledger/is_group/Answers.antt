use Rattle.std.proofs.Common.{◌≡◌, true, false, ap, sym, ◌∙◌, reverse}
use Rattle.chorus_ui.specs.Layout.{has_site, first_place}
use Rattle.chorus_world.specs.Views.{at, is_group}
use Rattle.chorus_world.specs.Steps.{State}
use Rattle.checker_ledger.proofs.ReadLemmas.{group_here, no_group, own_place}
use Rattle.checker_ledger.proofs.ledger.Ledger.is_group.Goals as goal

pub returns-then-has_site : goal.returns-then-has_site
returns-then-has_site c =
    let past = reverse c.self.inside.entries.items in
    let l = c.self.inside.layout in
    let g = c.args.group in
    let at_home : c.first_place.result ≡ first_place l g.site = c.first_place.ensures.value ∙ ap (first_place l) c.site-site.ensures.value in
    let has : has_site l g.site ≡ true = sym (c.has_site.ensures ∙ ap (has_site l) c.site-site.ensures.value) ∙ c.if-has_site.true in
    let here = group_here l past g (first_place l g.site) c.turns-shape.ensures.layout c.self.invariant.0 (own_place l g has) in
    c.is_group_here.ensures
    ∙ (ap (λ (w : State). is_group g (at c.first_place.result w.past)) (sym c.self.view_is)
    ∙ (ap (λ p. is_group g (at p past)) at_home
    ∙ (sym here ∙ ap (λ (w : State). is_group g w.past) c.self.view_is)))

pub returns-else-has_site : goal.returns-else-has_site
returns-else-has_site c =
    let l = c.self.inside.layout in
    let g = c.args.group in
    let lacks : has_site l g.site ≡ false = sym (c.has_site.ensures ∙ ap (has_site l) c.site-site.ensures.value) ∙ c.if-has_site.false in
    c.if-has_site.false
    ∙ (sym (no_group l (reverse c.self.inside.entries.items) g c.turns-shape.ensures.layout c.self.invariant.0 lacks)
    ∙ ap (λ (w : State). is_group g w.past) c.self.view_is)
