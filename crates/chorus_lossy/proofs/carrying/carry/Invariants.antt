use Rattle.std.proofs.Common.{◌≡◌, ◌≤◌, ◌+◌, ◌-◌, ◌*◌, []}
use Rattle.chorus_lossy.specs.Line.{window_count}
use Rattle.chorus_lossy.specs.Rounds.{after_rounds}
use Rattle.chorus_lossy.specs.Running.{IsAt}
use Rattle.chorus_lossy.proofs.carrying.carry.Given as goal

abbrev pub invariant-loop-alloc : goal.invariant-loop-alloc
invariant-loop-alloc l = record {
  from : 1 ≤ l.round;
  soon : l.round - 1 ≤ 4 * window_count l.bytes;
  at : IsAt (after_rounds l.first l.bytes (l.round - 1)) l.run l.sender l.receiver;
  none : l.run.held.items ≡ [];
}

abbrev pub decreases-loop-alloc : goal.decreases-loop-alloc
decreases-loop-alloc l = 4 * window_count l.bytes + 1 - l.round
