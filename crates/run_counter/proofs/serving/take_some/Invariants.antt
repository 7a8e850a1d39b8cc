use Rattle.chorus_sessions.specs.Sessions.{IsSession}
use Rattle.run_counter.proofs.serving.take_some.Given as goal

abbrev pub invariant-loop : goal.invariant-loop
invariant-loop l = IsSession l.nucleus l.session
