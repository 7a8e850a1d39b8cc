use Rattle.chorus_nucleus.specs.Passes.{known}
use Rattle.chorus_perform.proofs.Steps.{goes-on, on-ok}
use Rattle.chorus_run.specs.DrawnCrew.Filling.{crew_commands}
use Rattle.chorus_run.proofs.DrawnCrew.Sent.{same-then}
use Rattle.chorus_run.proofs.drawn_crew.filling.fill.Goals as goal

pub returns-clause-same : goal.returns-clause-same
returns-clause-same g c = same-then (known c.args.pass.now) (known c.make_and_send.new.pass) (known c.settle.new.pass) c.make_and_send.ensures.same c.settle.ensures.goes.same

pub returns-clause-ok : goal.returns-clause-ok
returns-clause-ok g c =
    on-ok c.settle.result _
    (goes-on (crew_commands c.args.first c.args.commands) c.args.pass.now c.make_and_send.new.pass c.settle.new.pass c.in_ok-make_and_send.ensures.ok c.settle.ensures.goes)
