use Rattle.chorus_nucleus.proofs.TakeTurns.{refused}
use Rattle.chorus_nucleus.proofs.taking.take_once.Goals as goal

pub returns-in-Err : goal.returns-in-Err
returns-in-Err c = refused c.args.nucleus.now c.args.port c.args.pass.now c.take.new.pass c.in-Err.fault c.in-Err.ensures
