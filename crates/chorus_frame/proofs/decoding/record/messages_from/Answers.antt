use Rattle.std.proofs.Common.{arith}
use Rattle.std.proofs.lemmas.Grind.{common_steps}
use Rattle.std.proofs.lemmas.Result.{err_from_is_err_and}
use Rattle.chorus_frame.proofs.Loops.{messages-on, messages-fail, messages-done}
use Rattle.chorus_frame.proofs.decoding.record.messages_from.Goals as goal

pub returns-in_err-message : goal.returns-in_err-message
returns-in_err-message c =
    let p = err_from_is_err_and c.from_residual.result c.from_residual.ensures.1 in
    rw (p.1, p.2) (messages-fail _ c.loop.pending c.args.count c.loop.counter c.loop.reader _ c.loop-test.true c.in_err-message.ensures c.loop.invariant.read)

pub loop-preserved : goal.loop-preserved
loop-preserved c = record {
  read = rw c.push.ensures (messages-on c.loop.pending c.args.count c.loop.counter c.loop.reader c.in_ok-message.message c.message_from.new.reader _ c.loop-test.true c.in_ok-message.ensures c.loop.invariant.read);
  room = grind (arith, common_steps);
}

pub returns : goal.returns
returns c = messages-done c.loop.pending c.args.count c.loop.counter c.loop.reader _ c.loop-test.false c.loop.invariant.read
