use Rattle.std.proofs.Common.{◌-◌, ◌+◌, ◌≤◌, length}
use Rattle.chorus_ruled_ends.specs.Linked.{HaveSlots}
use Rattle.chorus_ruled_ends.proofs.linking.unlinked.Given as goal

abbrev pub invariant-loop-alloc : goal.invariant-loop-alloc
invariant-loop-alloc l = record {
  few : length l.all.items ≤ l.places;
  slots : HaveSlots (l.places + 1) (length l.all.items) l.all.items;
}

abbrev pub decreases-loop-alloc : goal.decreases-loop-alloc
decreases-loop-alloc l = l.places - l.all.len
