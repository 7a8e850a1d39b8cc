use Rattle.run_jobs.proofs.Ending.{keeps-each-job}
use Rattle.run_jobs.proofs.Promising.{promised}
use Rattle.run_jobs.proofs.running.run_queue.Goals as goal

pub returns-clause-promise : goal.returns-clause-promise
returns-clause-promise g c = promised c.args.layout c.in_ok-finished.finished.closed c.in-Some-new.queue c.in_ok-finished.ensures.run

pub returns-clause-kept : goal.returns-clause-kept
returns-clause-kept g c =
    let f = c.in_ok-finished.finished in
    let e = c.in_ok-finished.ensures in
    keeps-each-job c.args.layout f.closed f.hands.items e.run e.hands e.kept c.in-Some-new.queue e.delivered
