use Rattle.chorus_crew.proofs.Draining.{Drained}
use Rattle.chorus_crew.proofs.one_job.drain.Given as goal

abbrev pub invariant-loop : goal.invariant-loop
invariant-loop g l = Drained (g.F.Fold.way l.fold) l.nucleus l.port l.from l.count l.state l.fn.pass l.pass
