use Rattle.chorus_serve.proofs.Flowing.{pushes-on}
use Rattle.chorus_serve.proofs.pushing.push_to.Goals as goal

pub returns-in_err-push_one-clause-pushes : goal.returns-in_err-push_one-clause-pushes
returns-in_err-push_one-clause-pushes g c =
    pushes-on c.args.place.now c.loop.place c.push_one.new.place (g.E.Ends.links c.args.ends.now) (g.E.Ends.links c.loop.ends) (g.E.Ends.links c.push_one.new.ends) c.loop.invariant
    c.push_one.ensures.pushes

pub loop-preserved : goal.loop-preserved
loop-preserved g c =
    pushes-on c.args.place.now c.loop.place c.push_one.new.place (g.E.Ends.links c.args.ends.now) (g.E.Ends.links c.loop.ends) (g.E.Ends.links c.push_one.new.ends) c.loop.invariant
    c.push_one.ensures.pushes

pub returns-clause-pushes : goal.returns-clause-pushes
returns-clause-pushes g c =
    pushes-on c.args.place.now c.loop.place c.push_one.new.place (g.E.Ends.links c.args.ends.now) (g.E.Ends.links c.loop.ends) (g.E.Ends.links c.push_one.new.ends) c.loop.invariant
    c.push_one.ensures.pushes
