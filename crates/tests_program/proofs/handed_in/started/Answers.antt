use Rattle.chorus_perform.proofs.Opening.{opening}
use Rattle.tests_program.proofs.handed_in.started.Goals as goal

pub returns-clause-opening : goal.returns-clause-opening
returns-clause-opening g c = opening _ _ _ c.in-Ok.ensures
