use Rattle.chorus_sessions.specs.Sessions.{IsSession}
use Rattle.run_jobs.proofs.comers.send_jobs.Given as goal

abbrev pub invariant-loop-number : goal.invariant-loop-number
invariant-loop-number g l = IsSession l.nucleus l.session
