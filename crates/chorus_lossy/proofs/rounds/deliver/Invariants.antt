use Rattle.std.proofs.Common.{◌≡◌, is_some}
use Rattle.std.specs.List.{prefix_len}
use Rattle.chorus_transport.specs.Sending.{Sending}
use Rattle.chorus_lossy.specs.Rounds.{Moment}
use Rattle.chorus_lossy.specs.Running.{IsAt}
use Rattle.chorus_lossy.proofs.Running.{AreDelivering}
use Rattle.chorus_lossy.proofs.rounds.deliver.Given as goal

abbrev pub invariant-loop-chunk : goal.invariant-loop-chunk
invariant-loop-chunk l = record {
  so_far : (m : Moment) (s : Sending) → IsAt m l.fn.run s l.fn.receiver → AreDelivering m l.run s l.receiver;
  held : l.run.held ≡ l.fn.run.held;
  lost : l.run.lost ≡ l.fn.run.lost;
}

abbrev pub decreases-loop-chunk : goal.decreases-loop-chunk
decreases-loop-chunk l = prefix_len is_some l.receiver.ahead
