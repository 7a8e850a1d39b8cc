use Rattle.chorus_sessions.proofs.Delivering.{hears-err}
use Rattle.chorus_sessions.proofs.sending.ask.Goals as goal

pub returns-in-Err-clause-hears : goal.returns-in-Err-clause-hears
returns-in-Err-clause-hears c = hears-err c.args.nucleus.now c.args.id c.args.pass.now c.outcome.new.pass c.in-Err.field-0 c.in-Err.ensures
