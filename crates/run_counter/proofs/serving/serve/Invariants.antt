use Rattle.chorus_sessions.specs.Sessions.{IsSession}
use Rattle.run_counter.proofs.serving.serve.Given as goal

abbrev pub invariant-loop-round : goal.invariant-loop-round
invariant-loop-round g l = IsSession l.nucleus l.session
