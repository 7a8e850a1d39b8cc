use Rattle.std.proofs.Common.{◌+◌, ◌≤◌, vec_len, vec_capacity}
use Rattle.std.specs.List.{All}
use Rattle.chorus_crew.specs.Retiring.{IsFullSlot}
use Rattle.chorus_crew.proofs.Ended.{Collected}
use Rattle.chorus_crew.proofs.retiring.retire_done.Given as goal

abbrev pub invariant-loop-slot : goal.invariant-loop-slot
invariant-loop-slot g l = record {
  full : All (IsFullSlot l.nucleus) l.slots.items;
  room : vec_len l.folded + vec_len l.slots ≤ vec_capacity l.folded;
  collected : Collected l.nucleus l.fn.pass l.pass l.fn.slots.items l.slots.items l.folded.items l.all;
}

abbrev pub decreases-loop-slot : goal.decreases-loop-slot
decreases-loop-slot g l = goal.left-loop-slot g l
