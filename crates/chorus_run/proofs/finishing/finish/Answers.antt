use Rattle.chorus_report.proofs.Ends.{finished-worn, finished-as, none-of}
use Rattle.chorus_run.proofs.finishing.finish.Goals as goal

pub returns-in-Some-clause-finished : goal.returns-in-Some-clause-finished
returns-in-Some-clause-finished g c = finished-worn c.args.played c.in-Ok.played c.in-Some.clock c.in-Ok.is c.in-Some.is

pub returns-clause-finished : goal.returns-clause-finished
returns-clause-finished g c =
    finished-as c.args.played c.in-Ok.played c.print.result.status c.print.result.closed c.in-Ok.is (none-of c.in-Ok.played.worn c.in_default-worn.not-Some) c.print.ensures.closed c.print.ensures.status
