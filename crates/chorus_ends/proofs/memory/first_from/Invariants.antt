use Rattle.std.proofs.Common.{◌≡◌, ◌-◌, ◌≤◌, length}
use Rattle.chorus_ends.specs.Memory.{NoneFrom}
use Rattle.chorus_ends.proofs.memory.first_from.Given as goal

abbrev pub invariant-loop-at : goal.invariant-loop-at
invariant-loop-at l = record {
  most : l.at ≤ length l.packets;
  none : NoneFrom l.from l.at l.packets;
}

abbrev pub decreases-loop-at : goal.decreases-loop-at
decreases-loop-at l = length l.packets - l.at
