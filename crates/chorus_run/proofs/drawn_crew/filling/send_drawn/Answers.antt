use Rattle.chorus_perform.proofs.Steps.{on-ok}
use Rattle.chorus_run.proofs.DrawnCrew.Sent.{sent-so}
use Rattle.chorus_run.proofs.drawn_crew.filling.send_drawn.Goals as goal

pub returns-clause-ok : goal.returns-clause-ok
returns-clause-ok g c =
    on-ok c.settle.result _
    (sent-so c.args.drawn c.in-Some.site c.args.number c.in-Ok.command c.args.pass.now c.perform_command.new.pass c.settle.new.pass c.in-Some.is c.in-Ok.ensures c.in_ok-perform_command.ensures.ok c.settle.ensures.goes)
