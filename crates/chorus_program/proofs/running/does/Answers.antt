use Rattle.std.proofs.Common.{refl}
use Rattle.chorus_program.proofs.Doing.{causes-of, causes-of-load}
use Rattle.chorus_program.proofs.running.does.Goals as goal

pub returns-in-Run-clause-causes : goal.returns-in-Run-clause-causes
returns-in-Run-clause-causes g c =
    causes-of c.run.result _ _ _ _ _ _ _ _ _ _ _ c.run.ensures.reads c.run.ensures.writes

pub returns-in-Crew-clause-causes : goal.returns-in-Crew-clause-causes
returns-in-Crew-clause-causes g c =
    causes-of-load c.handle_drawn.result g.S.Source.left _ _ _ _ _ _ _ _ _ c.handle_drawn.ensures.status refl c.handle_drawn.ensures.writes
