use Rattle.chorus_sessions.specs.Delivering.{Pumps}
use Rattle.chorus_sessions.specs.Sessions.{Goes}
use Rattle.chorus_sessions.proofs.pumping.settle.Given as goal

abbrev pub invariant-loop : goal.invariant-loop
invariant-loop g l = Goes l.nucleus l.fn.pass l.pass × Pumps l.nucleus l.fn.pass l.pass
