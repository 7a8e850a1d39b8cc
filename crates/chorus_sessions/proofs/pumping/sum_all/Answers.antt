use Rattle.std.proofs.Common.{◌≡◌, ap, subst, arith}
use Rattle.chorus_ui.specs.Layout.{places}
use Rattle.chorus_nucleus.specs.Passes.{known, layout_of}
use Rattle.chorus_nucleus.specs.Rounds.{IsRound}
use Rattle.chorus_sessions.proofs.Delivering.{pumps-more}
use Rattle.chorus_sessions.proofs.Steps.{goes-then}
use Rattle.chorus_sessions.proofs.pumping.sum_all.Goals as goal

pub loop-index-preserved : goal.loop-index-preserved
loop-index-preserved g c =
    let n = c.args.nucleus.now in
    let first = c.args.pass.now in
    let i = c.loop-index.invariant in (
      goes-then n first c.loop-index.pass c.visit.new.pass i.0 c.visit.ensures.goes,
      pumps-more n first c.loop-index.pass c.visit.new.pass i.1 c.visit.ensures.served,
      c.visit.ensures.round,
    )

pub returns-clause-round : goal.returns-clause-round
returns-clause-round g c is =
    let over = c.loop-index-test.false in
    let within = c.loop-index.auto.index-end in
    let value = c.places-index-end.ensures.value in
    let named = ap places c.layout.ensures in
    let at : c.loop-index.index ≡ places (layout_of c.args.nucleus.now) = omega (arith, over, within, value, named) in
    subst (λ m. IsRound m c.loop-index.sums.put c.loop-index.sums.worked (known c.loop-index.pass)) at (c.loop-index.invariant.2 is)
