use Rattle.chorus_perform.proofs.Halts.{serve-unworn, serve-halted}
use Rattle.std.proofs.Common.{◌≡◌, true, ◌∙◌, ap, subst, arith, ◌+◌}
use Rattle.chorus_ui.specs.Layout.{places}
use Rattle.chorus_nucleus.specs.Passes.{known, layout_of}
use Rattle.chorus_nucleus.specs.Rounds.{IsRound}
use Rattle.chorus_nucleus.proofs.Idling.{round-over}
use Rattle.chorus_perform.proofs.Steps.{goes-none, on-err}
use Rattle.chorus_perform.proofs.rounds.round.Goals as goal

pub returns-in_err-visit-clause-goes : goal.returns-in_err-visit-clause-goes
returns-in_err-visit-clause-goes g c = goes-none c.args.pass.now c.loop-index.pass c.visit.new.pass c.loop-index.invariant.1 c.in_err-visit.ensures.goes

pub loop-index-preserved : goal.loop-index-preserved
loop-index-preserved g c = (
  c.visit.ensures.pass,
  goes-none c.args.pass.now c.loop-index.pass c.visit.new.pass c.loop-index.invariant.1 c.visit.ensures.goes,
  c.visit.ensures.round,
  serve-unworn c.args.nucleus.now c.loop-index.pass c.visit.new.pass (c.loop-index.index + 1) c.in_ok-visit.ensures.told.0 c.in_ok-visit.ensures.told.1.0 c.in_ok-visit.ensures.told.1.1 ∙ c.loop-index.invariant.3,
)

pub returns-clause-even : goal.returns-clause-even
returns-clause-even g c is =
    let over : c.is_over.result ≡ true = cc in
    let l = layout_of c.args.nucleus.now in
    let v = known c.loop-index.pass in
    let sums = c.loop-index.sums in
    let count : c.places-count.result ≡ places l = c.places-count.ensures.value ∙ ap places c.layout.ensures in
    let same : c.loop-index.index ≡ places l = omega (arith, count, c.loop-index-test.false, c.loop-index.auto.index-end) in
    round-over l sums.idle sums.put sums.worked v (λ idle. subst (λ m. IsRound m sums.put sums.worked v) same (c.loop-index.invariant.2 idle)) (c.is_over.ensures over)

pub returns-in_err-visit-clause-halted : goal.returns-in_err-visit-clause-halted
returns-in_err-visit-clause-halted g c = on-err c.from_residual.result _ (serve-halted c.args.nucleus.now c.loop-index.pass c.visit.new.pass (c.loop-index.index + 1) c.in_err-visit.ensures.told.0 c.in_err-visit.ensures.told.1.0 c.in_err-visit.ensures.told.1.1)
