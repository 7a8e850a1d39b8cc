use Rattle.std.proofs.Common.{◌≡◌, length, ◌-◌, ◌+◌, ◌≤◌}
use Rattle.std.specs.Vec.{vec_capacity}
use Rattle.chorus_merge.proofs.Loops.{Merging}
use Rattle.chorus_merge.proofs.merging.merge_two.Given as goal

abbrev pub invariant-loop-i : goal.invariant-loop-i
invariant-loop-i l = record {
  merging : Merging l.entries.items l.first l.second l.i l.j;
  in_first : l.i ≤ length l.first;
  in_second : l.j ≤ length l.second;
  count : length l.entries.items ≡ l.i + l.j;
  room : length l.first + length l.second ≤ vec_capacity l.entries;
}

abbrev pub decreases-loop-i : goal.decreases-loop-i
decreases-loop-i l = (length l.first - l.i) + (length l.second - l.j)
