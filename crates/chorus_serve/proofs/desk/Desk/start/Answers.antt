use Rattle.chorus_serve.proofs.Joining.{desk-started}
use Rattle.chorus_serve.proofs.desk.Desk.start.Goals as goal

pub invariant_of-result : goal.invariant_of-result
invariant_of-result g c =
    desk-started c.args.layout c.args.number c.in_ok-place.place (g.E.Ends.links c.args.ends) c.requires.reaches c.in_ok-place.ensures.state c.in_ok-place.ensures.out
