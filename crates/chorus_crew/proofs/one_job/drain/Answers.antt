use Rattle.chorus_crew.proofs.Draining.{drained-none, drained-more, empties, misses, stops}
use Rattle.chorus_crew.proofs.one_job.drain.Goals as goal

pub loop-init : goal.loop-init
loop-init g c = drained-none (g.F.Fold.way c.args.fold.now) c.args.nucleus.now c.args.port c.args.pass.now c.begin-state.result c.requires.pass c.begin-state.ensures

pub returns-in-Ok-Empty-clause-work : goal.returns-in-Ok-Empty-clause-work
returns-in-Ok-Empty-clause-work g c =
    let k = rw c.in-Ok-Empty.field-0-is at c.in-Ok-Empty.ensures.take in
    empties (g.F.Fold.way c.args.fold.now) c.args.nucleus.now c.args.port c.loop.from c.loop.count c.loop.state c.args.pass.now c.loop.pass c.take_when_free.new.pass c.loop.invariant k

pub returns-in-Ok-NotHere-clause-work : goal.returns-in-Ok-NotHere-clause-work
returns-in-Ok-NotHere-clause-work g c =
    let k = rw c.in-Ok-NotHere.field-0-is at c.in-Ok-NotHere.ensures.take in
    misses (g.F.Fold.way c.args.fold.now) c.args.nucleus.now c.args.port c.loop.from c.loop.count c.loop.state c.args.pass.now c.loop.pass c.take_when_free.new.pass c.loop.invariant k

pub returns-in-Err-clause-work : goal.returns-in-Err-clause-work
returns-in-Err-clause-work g c =
    stops (g.F.Fold.way c.args.fold.now) c.args.nucleus.now c.args.port c.loop.from c.loop.count c.loop.state c.args.pass.now c.loop.pass c.take_when_free.new.pass c.loop.invariant c.in-Err.fault c.in-Err.ensures.take

pub loop-preserved : goal.loop-preserved
loop-preserved g c =
    let k = rw c.in-Ok-Took.field-0-is at c.in-Ok-Took.ensures.take in
    drained-more (g.F.Fold.way c.args.fold.now) c.args.nucleus.now c.args.port c.loop.from c.loop.count c.loop.state c.args.pass.now c.loop.pass c.take_when_free.new.pass c.loop.invariant
    c.in-Ok-Took.taken c.first_of-from.result c.one_more-count.result c.handle.new.state k c.first_of-from.ensures.zero c.first_of-from.ensures.later c.one_more-count.ensures c.handle.ensures
