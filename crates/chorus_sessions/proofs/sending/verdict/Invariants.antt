use Rattle.chorus_sessions.specs.Delivering.{Waits}
use Rattle.chorus_sessions.specs.Sessions.{Goes}
use Rattle.chorus_sessions.proofs.sending.verdict.Given as goal

abbrev pub invariant-loop : goal.invariant-loop
invariant-loop g l = Goes l.nucleus l.fn.pass l.pass × Waits l.nucleus l.id l.fn.pass l.pass
