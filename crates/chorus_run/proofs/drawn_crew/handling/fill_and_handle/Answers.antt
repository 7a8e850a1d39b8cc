use Rattle.chorus_run.proofs.DrawnCrew.Endings.{ok-crewed}
use Rattle.chorus_run.proofs.drawn_crew.handling.fill_and_handle.Goals as goal

pub returns-in-Ok-clause-ok : goal.returns-in-Ok-clause-ok
returns-in-Ok-clause-ok g c =
    ok-crewed c.args.nucleus.now c.args.first c.args.commands c.handle.result c.args.pass.now c.fill-filled.new.pass c.handle.new.pass
    c.requires.opening c.in-Ok.ensures.same c.in-Ok.ensures.ok c.in-Ok.ensures.even c.fill-filled.ensures.pass c.handle.ensures.retired c.handle.ensures.ok
