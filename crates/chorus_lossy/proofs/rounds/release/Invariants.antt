use Rattle.std.proofs.Common.{◌≡◌}
use Rattle.chorus_transport.specs.Sending.{Sending}
use Rattle.chorus_lossy.specs.Rounds.{Moment}
use Rattle.chorus_lossy.specs.Running.{IsAt, AreSmall}
use Rattle.chorus_lossy.proofs.Running.{AreReleasing}
use Rattle.chorus_lossy.proofs.rounds.release.Given as goal

abbrev pub invariant-loop-number : goal.invariant-loop-number
invariant-loop-number l = record {
  so_far : (m : Moment) (s : Sending) → IsAt m l.fn.run s l.fn.receiver → AreReleasing m l.run s l.receiver;
  small : AreSmall l.run.held.items;
  lost : l.run.lost ≡ l.fn.run.lost;
}

abbrev pub decreases-loop-number : goal.decreases-loop-number
decreases-loop-number l = goal.left-loop-number l
