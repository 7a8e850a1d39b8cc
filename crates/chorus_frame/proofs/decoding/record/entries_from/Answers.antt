use Rattle.std.proofs.Common.{arith}
use Rattle.std.proofs.lemmas.Grind.{common_steps}
use Rattle.std.proofs.lemmas.Result.{err_from_is_err_and}
use Rattle.chorus_frame.proofs.Loops.{entries-on, entries-fail, entries-done}
use Rattle.chorus_frame.proofs.decoding.record.entries_from.Goals as goal

pub returns-in_err-client : goal.returns-in_err-client
returns-in_err-client c =
    let p = err_from_is_err_and c.from_residual.result c.from_residual.ensures.1 in
    rw (p.1, p.2) (entries-fail _ c.loop.clients c.args.count c.loop.counter c.loop.reader _ c.loop-test.true c.in_err-client.ensures.reads c.loop.invariant.read)

pub loop-preserved : goal.loop-preserved
loop-preserved c = record {
  read = rw c.push.ensures (entries-on c.loop.clients c.args.count c.loop.counter c.loop.reader (c.in_ok-client.client, c.in_ok-client.number) c.client_from.new.reader _ c.loop-test.true c.in_ok-client.ensures.reads c.loop.invariant.read);
  room = grind (arith, common_steps);
}

pub returns : goal.returns
returns c = entries-done c.loop.clients c.args.count c.loop.counter c.loop.reader _ c.loop-test.false c.loop.invariant.read
