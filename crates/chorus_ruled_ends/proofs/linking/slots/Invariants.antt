use Rattle.std.proofs.Common.{◌-◌, ◌≤◌}
use Rattle.chorus_ruled_ends.proofs.linking.slots.Given as goal

abbrev pub invariant-loop-slots : goal.invariant-loop-slots
invariant-loop-slots g l = l.slots.len ≤ l.count

abbrev pub decreases-loop-slots : goal.decreases-loop-slots
decreases-loop-slots g l = l.count - l.slots.len
