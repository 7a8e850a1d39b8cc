use Rattle.std.proofs.Common.{◌-◌, sym, ◌∙◌, arith}
use Rattle.chorus_transport.proofs.PlaceLemmas.{filled_stay, places_after_arrival}
use Rattle.chorus_transport.proofs.receiver.Receiver.arrived.Goals as goal

pub filled-self-inside-requires : goal.filled-self-inside-requires
filled-self-inside-requires c =
    let at = c.args.number - c.self.inside.delivered in
    omega (arith, c.self.invariant.counted, filled_stay c.self.inside.places.items c.widen.new.places.items _ at c.args.chunk c.in_default.ensures.ok)

pub returns-clause-after : goal.returns-clause-after
returns-clause-after c =
    rw (← c.self.view_is)
    (places_after_arrival
    c.self.inside.window
    c.self.inside.delivered
    c.args.number
    c.self.inside.places.items
    c.widen.new.places.items
    c.args.chunk
    (omega arith)
    (omega arith)
    (omega arith)
    (sym c.is_filled.ensures ∙ c.if-is_filled.false)
    c.in_default.ensures.ok)
