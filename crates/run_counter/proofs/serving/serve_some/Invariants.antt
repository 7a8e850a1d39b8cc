use Rattle.chorus_sessions.specs.Sessions.{IsSession}
use Rattle.run_counter.proofs.serving.serve_some.Given as goal

abbrev pub invariant-loop-index : goal.invariant-loop-index
invariant-loop-index g l = IsSession l.nucleus l.session
