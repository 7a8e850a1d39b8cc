use Rattle.chorus_sessions.specs.Sessions.{IsSession}
use Rattle.run_counter.proofs.calling.call.Given as goal

abbrev pub invariant-loop : goal.invariant-loop
invariant-loop g l = IsSession l.nucleus l.session
