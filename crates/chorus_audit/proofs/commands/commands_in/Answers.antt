use Rattle.std.proofs.Common.{arith}
use Rattle.chorus_audit.proofs.Waiters.{commands_few}
use Rattle.chorus_audit.proofs.commands.commands_in.Goals as goal

pub count_entry-requires : goal.count_entry-requires
count_entry-requires c =
    let seat = c.entry-item.result.seat in
    omega (arith, c.loop-left.invariant.sums seat, commands_few seat c.args.entries.now, c.requires)
