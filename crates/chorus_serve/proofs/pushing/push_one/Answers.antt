use Rattle.std.proofs.Common.{◌∙◌, sym}
use Rattle.chorus_serve.proofs.Flowing.{none-pushes, one-pushes, back-pushes}
use Rattle.chorus_serve.proofs.pushing.push_one.Goals as goal

pub returns-in_default-clause-pushes : goal.returns-in_default-clause-pushes
returns-in_default-clause-pushes g c =
    none-pushes c.args.to c.args.place.now c.out.new.self (g.E.Ends.links c.args.ends.now) c.out.ensures.state c.out.ensures.waits c.out.ensures.puts c.out.ensures.spare (sym c.out.ensures.value ∙ c.in_default.is)

pub returns-in-Ok-clause-pushes : goal.returns-in-Ok-clause-pushes
returns-in-Ok-clause-pushes g c =
    one-pushes c.args.to c.in-Some.packet c.args.place.now c.out.new.self (g.E.Ends.links c.args.ends.now) (g.E.Ends.links c.push.new.self)
    c.out.ensures.state c.out.ensures.waits c.out.ensures.puts c.out.ensures.spare (sym c.out.ensures.value ∙ c.in-Some.is) c.in-Ok.ensures.sent c.push.ensures.counts

pub returns-in-Full-clause-pushes : goal.returns-in-Full-clause-pushes
returns-in-Full-clause-pushes g c =
    back-pushes c.args.to c.in-Some.packet c.in-Err.packet c.args.place.now c.out.new.self c.put_back.new.self (g.E.Ends.links c.args.ends.now) (g.E.Ends.links c.push.new.self)
    c.out.ensures.state c.out.ensures.waits c.out.ensures.puts c.out.ensures.spare (sym c.out.ensures.value ∙ c.in-Some.is) c.put_back.ensures.state c.put_back.ensures.waits c.put_back.ensures.puts c.put_back.ensures.spare c.in-Err.ensures.back c.in-Err.ensures.unmoved
    c.push.ensures.counts

pub returns-in-Memory-clause-pushes : goal.returns-in-Memory-clause-pushes
returns-in-Memory-clause-pushes g c =
    back-pushes c.args.to c.in-Some.packet c.in-Err.packet c.args.place.now c.out.new.self c.put_back.new.self (g.E.Ends.links c.args.ends.now) (g.E.Ends.links c.push.new.self)
    c.out.ensures.state c.out.ensures.waits c.out.ensures.puts c.out.ensures.spare (sym c.out.ensures.value ∙ c.in-Some.is) c.put_back.ensures.state c.put_back.ensures.waits c.put_back.ensures.puts c.put_back.ensures.spare c.in-Err.ensures.back c.in-Err.ensures.unmoved
    c.push.ensures.counts
