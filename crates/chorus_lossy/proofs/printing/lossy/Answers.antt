use Rattle.std.proofs.Common.{refl}
use Rattle.chorus_lossy.proofs.Whole.{within_opening}
use Rattle.chorus_lossy.proofs.printing.lossy.Goals as goal

pub returns-in-Err-Fault-clause-carries : goal.returns-in-Err-Fault-clause-carries
returns-in-Err-Fault-clause-carries g c =
    let stopped = rw c.in-Err-Fault.field-0-is at c.in-Err-Fault.ensures.stopped in
    (stopped.0, stopped.1, refl, c.requires)

pub returns-in-Err-TooLong-clause-carries : goal.returns-in-Err-TooLong-clause-carries
returns-in-Err-TooLong-clause-carries g c =
    let stopped = rw c.in-Err-TooLong.field-0-is at c.in-Err-TooLong.ensures.stopped in
    (stopped.0, (refl, stopped.1), refl, c.requires)

pub returns-in-Err-Memory-clause-carries : goal.returns-in-Err-Memory-clause-carries
returns-in-Err-Memory-clause-carries g c =
    let stopped = rw c.in-Err-Memory.field-0-is at c.in-Err-Memory.ensures.stopped in
    (stopped.0, stopped.1, refl, within_opening c.args.first stopped.0 _ c.requires)
