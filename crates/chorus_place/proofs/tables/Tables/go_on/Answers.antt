use Rattle.std.proofs.Common.{ap, sym, ◌∙◌}
use Rattle.chorus_ui.specs.Layout.{has_place}
use Rattle.chorus_hints.specs.Known.{kept}
use Rattle.chorus_place.proofs.PlaceTables.Going.{located-in_layout}
use Rattle.chorus_place.proofs.tables.Tables.go_on.Goals as goal

pub try_first-requires-clause-place : goal.try_first-requires-clause-place
try_first-requires-clause-place c =
    let i = c.self.inside in
    let q = c.args.key.now.port in
    ap (λ l. has_place l c.newest-newest.result.0) (sym (ap (λ p. p.layout) c.self.view_is))
    ∙ located-in_layout i.layout (kept i.hints q) q c.newest-newest.result i.hints.layout (c.self.invariant.2.located q)
    c.self.invariant.2.layout c.newest-newest.ensures.value c.newest-newest.ensures.made
