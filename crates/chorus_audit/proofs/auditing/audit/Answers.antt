use Rattle.std.proofs.Common.{refl}
use Rattle.chorus_audit.proofs.auditing.audit.Goals as goal

pub returns-in-Err-Fault-clause-reads : goal.returns-in-Err-Fault-clause-reads
returns-in-Err-Fault-clause-reads g c = rw c.in-Err-Fault.field-0-is at c.in-Err-Fault.ensures.stopped

pub returns-in-Err-TooLong-clause-reads : goal.returns-in-Err-TooLong-clause-reads
returns-in-Err-TooLong-clause-reads g c = (refl, rw c.in-Err-TooLong.field-0-is at c.in-Err-TooLong.ensures.stopped)

pub returns-in-Err-Memory-clause-reads : goal.returns-in-Err-Memory-clause-reads
returns-in-Err-Memory-clause-reads g c = rw c.in-Err-Memory.field-0-is at c.in-Err-Memory.ensures.stopped

pub returns-in_default-clause-reads : goal.returns-in_default-clause-reads
returns-in_default-clause-reads g c =
    let read = c.in-Ok.ensures.read in
    (c.in-Ok.text.items, (read.0, read.2))
