use Rattle.run_counter.proofs.Promising.{promised}
use Rattle.run_counter.proofs.running.run_counter.Goals as goal

pub returns-clause-promise : goal.returns-clause-promise
returns-clause-promise g c = promised c.args.layout c.in_ok-finished.finished.closed c.in-Some-new.counter c.in_ok-finished.ensures.run
