use Rattle.std.proofs.Common.{arith}
use Rattle.chorus_check.proofs.Counting.{line-ends, line-goes-on}
use Rattle.chorus_check.proofs.texts.line_count.Goals.{then-byte-eq10, else-byte-eq10}
use Rattle.chorus_check.proofs.texts.line_count.Goals as goal

pub loop-byte-preserved : goal.loop-byte-preserved
loop-byte-preserved c =
    let i = c.loop-byte.byte-index in
    let so-far = c.loop-byte.invariant.0 in
    let few = c.loop-byte.invariant.1 in
    elim c.if-byte-eq10.branch [
      | then-byte-eq10 w ↦
          (let is = w.count-is in let more = line-ends c.args.facts.now i c.loop-byte-test.true w.if-byte-eq10.true in (omega (arith, is, more, so-far), omega (arith, is, few)))
      | else-byte-eq10 w ↦
          (let is = w.count-is in let more = line-goes-on c.args.facts.now i c.loop-byte-test.true w.if-byte-eq10.false in (omega (arith, is, more, so-far), omega (arith, is, few)))
    ]
