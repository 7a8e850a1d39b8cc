use Rattle.chorus_serve.specs.Desks.{seen}
use Rattle.chorus_serve.proofs.Joining.{answers-more, all-more}
use Rattle.chorus_serve.proofs.serving.serve.Goals as goal

pub returns-clause-ok : goal.returns-clause-ok
returns-clause-ok g c =
    answers-more (seen g.E.Ends.links g.E.Ends.packet c.args.desk.now) (seen g.E.Ends.links g.E.Ends.packet c.take_turn.new.desk) (seen g.E.Ends.links g.E.Ends.packet c.send_rest.new.desk) c.send_rest.ensures
    c.args.caller.now c.take_turn.new.caller _ c.in_ok-pump.ensures.ok

pub returns-clause-emptied : goal.returns-clause-emptied
returns-clause-emptied g c =
    all-more (seen g.E.Ends.links g.E.Ends.packet c.args.desk.now) (seen g.E.Ends.links g.E.Ends.packet c.take_turn.new.desk) (seen g.E.Ends.links g.E.Ends.packet c.send_rest.new.desk) c.send_rest.ensures
    c.in_ok-pump.ensures.emptied
