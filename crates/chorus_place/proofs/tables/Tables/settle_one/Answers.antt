use Rattle.std.proofs.Common.{ap, sym, ◌∙◌, option_copied}
use Rattle.chorus_ui.specs.Layout.{has_site}
use Rattle.chorus_hints.specs.Known.{kept}
use Rattle.chorus_place.proofs.PlaceTables.Going.{nothing, away, nowhere-seen, elsewhere-seen, here-seen, seen-first, seen-site, placed, on-site, eq-yes, eq-no, located-in_layout}
use Rattle.chorus_place.specs.PlaceTables.Tables.{turn}
use Rattle.chorus_place.proofs.tables.Tables.settle_one.Goals as goal

pub is_on_site-requires : goal.is_on_site-requires
is_on_site-requires c =
    located-in_layout _ (kept c.self.inside.hints c.args.key.now.port) c.args.key.now.port _ _ (c.self.invariant.2.located c.args.key.now.port)
    c.self.invariant.2.layout c.newest-to.ensures.value c.newest-to.ensures.made

pub returns-in_default-clause-stops : goal.returns-in_default-clause-stops
returns-in_default-clause-stops c =
    λ _. nothing c.args.key.now (turn c.args.self.now c.args.caller.now)
    (seen-first c.args.key.now _ c.args.self.now _ c.self.view_is (sym c.first.ensures ∙ ap option_copied c.in_default.is))

pub returns-then-not-has_site-clause-on : goal.returns-then-not-has_site-clause-on
returns-then-not-has_site-clause-on c =
    λ _. nowhere-seen c.args.key.now c.args.self.now c.args.caller.now _ c.in-Some.first.now
    (seen-first c.args.key.now _ c.args.self.now _ c.self.view_is (sym c.first.ensures ∙ ap option_copied c.in-Some.is))
    (seen-site c.args.key.now _ c.args.self.now _ c.self.view_is (c.has_site.ensures ∙ ap (λ n. has_site c.self.inside.layout n) c.site.ensures.value) ∙ c.if-not-has_site.true)
    c.settle_first.ensures.turn

pub returns-then-not-is_on_site-clause-on : goal.returns-then-not-is_on_site-clause-on
returns-then-not-is_on_site-clause-on c =
    let site = c.has_site.ensures ∙ ap (λ n. has_site c.self.inside.layout n) c.site.ensures.value in
    λ _. elsewhere-seen c.args.key.now c.args.self.now c.args.caller.now _ c.in-Some.first.now
    (record { to = c.newest-to.result.0; hop = c.newest-to.result.1 })
    (seen-first c.args.key.now _ c.args.self.now _ c.self.view_is (sym c.first.ensures ∙ ap option_copied c.in-Some.is))
    (seen-site c.args.key.now _ c.args.self.now _ c.self.view_is site ∙ c.if-not-has_site.false)
    (placed c.args.key.now _ c.args.self.now c.newest-to.result _ c.self.view_is c.self.invariant.2.layout site c.if-not-has_site.false c.newest-to.ensures.value)
    (on-site _ c.args.self.now _ _ _ _ c.self.view_is c.is_on_site.ensures c.if-not-is_on_site.true)
    c.settle_first-then-not-is_on_site.ensures.turn

pub returns-clause-on : goal.returns-clause-on
returns-clause-on c =
    let site = c.has_site.ensures ∙ ap (λ n. has_site c.self.inside.layout n) c.site.ensures.value in
    λ _. here-seen c.args.key.now c.args.self.now c.args.caller.now _ c.in-Some.first.now
    (record { to = c.newest-to.result.0; hop = c.newest-to.result.1 })
    (seen-first c.args.key.now _ c.args.self.now _ c.self.view_is (sym c.first.ensures ∙ ap option_copied c.in-Some.is))
    (seen-site c.args.key.now _ c.args.self.now _ c.self.view_is site ∙ c.if-not-has_site.false)
    (placed c.args.key.now _ c.args.self.now c.newest-to.result _ c.self.view_is c.self.invariant.2.layout site c.if-not-has_site.false c.newest-to.ensures.value)
    (on-site _ c.args.self.now _ _ _ _ c.self.view_is c.is_on_site.ensures c.if-not-is_on_site.false)
    (eq-yes _ _ _ c.if-to-self.false (ap (λ p. p.number) c.self.view_is))
    c.settle_first-2.ensures.turn

pub returns-then-to-self-clause-stops : goal.returns-then-to-self-clause-stops
returns-then-to-self-clause-stops c =
    let site = c.has_site.ensures ∙ ap (λ n. has_site c.self.inside.layout n) c.site.ensures.value in
    λ _. away c.args.key.now (turn c.args.self.now c.args.caller.now) c.in-Some.first.now
    (record { to = c.newest-to.result.0; hop = c.newest-to.result.1 })
    (seen-first c.args.key.now _ c.args.self.now _ c.self.view_is (sym c.first.ensures ∙ ap option_copied c.in-Some.is))
    (seen-site c.args.key.now _ c.args.self.now _ c.self.view_is site ∙ c.if-not-has_site.false)
    (placed c.args.key.now _ c.args.self.now c.newest-to.result _ c.self.view_is c.self.invariant.2.layout site c.if-not-has_site.false c.newest-to.ensures.value)
    (on-site _ c.args.self.now _ _ _ _ c.self.view_is c.is_on_site.ensures c.if-not-is_on_site.false)
    (eq-no _ _ _ c.if-to-self.true (ap (λ p. p.number) c.self.view_is))
