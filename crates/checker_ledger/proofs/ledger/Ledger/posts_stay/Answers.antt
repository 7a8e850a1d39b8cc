use Rattle.std.proofs.Common.{ap, sym, ◌∙◌, reverse}
use Rattle.chorus_world.specs.Seats.{posts_stay}
use Rattle.chorus_world.specs.Steps.{State}
use Rattle.chorus_world.specs.Views.{by}
use Rattle.checker_rows.specs.Seats.{stays}
use Rattle.checker_rows.proofs.SeatLemmas.{stays_is}
use Rattle.checker_ledger.proofs.ledger.Ledger.posts_stay.Goals as goal

pub returns : goal.returns
returns c =
    let past = reverse c.self.inside.entries.items in
    c.stays.ensures
    ∙ (ap (λ r. stays c.args.place r.stay) (c.seat_in.ensures ∙ c.self.invariant.1.seats c.args.seat)
    ∙ (sym (stays_is c.args.place (by c.args.seat past))
    ∙ ap (λ (w : State). posts_stay c.args.place (by c.args.seat w.past)) c.self.view_is))
