use Rattle.std.proofs.Common.{Ok, Err, refl}
use Rattle.chorus_nucleus.specs.declared.fault.CallFault.{CallFault}
use Rattle.chorus_nucleus.proofs.Trying.{waited-more, take-after}
use Rattle.chorus_nucleus.proofs.taking.take_when_free.Goals as goal

pub returns-in-Ok-clause-take : goal.returns-in-Ok-clause-take
returns-in-Ok-clause-take g c = take-after c.args.nucleus.now c.args.port (Ok c.in-Ok.answer) c.args.pass.now c.loop.pass c.take_once.new.pass c.loop.invariant c.in-Ok.ensures

pub loop-preserved : goal.loop-preserved
loop-preserved g c =
    let k = rw c.in-Err-Busy.field-0-is at c.in-Err-Busy.ensures in
    waited-more c.args.nucleus.now c.args.port c.in-Err-Busy.field-0-0 c.args.pass.now c.loop.pass c.take_once.new.pass c.loop.invariant k

pub returns-in-Err-Memory : goal.returns-in-Err-Memory
returns-in-Err-Memory g c =
    let f = CallFault.Memory c.in-Err-Memory.none in
    let k = rw c.in-Err-Memory.field-0-is at c.in-Err-Memory.ensures in
    record { take = take-after c.args.nucleus.now c.args.port (Err f) c.args.pass.now c.loop.pass c.take_once.new.pass c.loop.invariant k; free = refl }

pub returns-in-Err-Worn : goal.returns-in-Err-Worn
returns-in-Err-Worn g c =
    let f = CallFault.Worn c.in-Err-Worn.clock in
    let k = rw c.in-Err-Worn.field-0-is at c.in-Err-Worn.ensures in
    record { take = take-after c.args.nucleus.now c.args.port (Err f) c.args.pass.now c.loop.pass c.take_once.new.pass c.loop.invariant k; free = refl }
