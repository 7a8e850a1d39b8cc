use Rattle.std.proofs.Common.{sym, ◌∙◌}
use Rattle.chorus_transport.proofs.PlaceLemmas.{one_more_filled, no_more_filled}
use Rattle.chorus_transport.proofs.window_slots.filled.Goals as goal

pub loop-ready-preserved : goal.loop-ready-preserved
loop-ready-preserved c =
    one_more_filled c.args.places.now.items _ c.loop-ready.invariant (sym c.is_filled.ensures ∙ c.loop-ready-test.true)

pub returns : goal.returns
returns c =
    no_more_filled c.args.places.now.items _ c.loop-ready.invariant (sym c.is_filled.ensures ∙ c.loop-ready-test.false)
