use Rattle.chorus_sessions.specs.Delivering.{IsTry, Steps}
use Rattle.chorus_sessions.specs.Sessions.{Goes}
use Rattle.chorus_sessions.proofs.sending.send_until_told.Given as goal

abbrev pub invariant-loop : goal.invariant-loop
invariant-loop g l = Goes l.nucleus l.fn.pass l.pass × Steps (IsTry l.nucleus l.port l.body) l.fn.pass l.pass
