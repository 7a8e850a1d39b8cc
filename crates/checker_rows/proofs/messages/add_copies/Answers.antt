use Rattle.std.proofs.Common.{arith, refl}
use Rattle.checker_rows.proofs.MessageLemmas.{copy_added}
use Rattle.checker_rows.proofs.messages.add_copies.Goals as goal

pub loop-i-preserved : goal.loop-i-preserved
loop-i-preserved c = (
  omega (arith, c.loop-i.invariant.0, c.add_sending.ensures.room),
  λ x.
      copy_added c.args.place x c.args.post c.copy_of.result c.args.group c.args.members.now c.loop-i.i c.index-members-i.result _ _ _ _ c.loop-i-test.true c.index-members-i.is c.copy_of.ensures refl (c.loop-i.invariant.1 x) (c.add_sending.ensures.rows x),
)
