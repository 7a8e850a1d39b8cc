use Rattle.std.proofs.Common.{◌≡◌, ◌≤◌, ◌+◌, ◌-◌}
use Rattle.chorus_lossy.specs.Rounds.{Moment, emissions}
use Rattle.chorus_lossy.specs.Running.{IsAt, AreSmall}
use Rattle.chorus_lossy.proofs.rounds.send.Given as goal

abbrev pub invariant-loop-number : goal.invariant-loop-number
invariant-loop-number l = record {
  at : (m : Moment) → IsAt m l.fn.run l.sender l.fn.receiver → IsAt (emissions l.round l.sender.base (l.number - l.sender.base) m) l.run l.sender l.receiver;
  above : l.sender.base ≤ l.number;
  emitted : l.run.emitted ≡ l.fn.run.emitted + (l.number - l.sender.base);
  lost : l.run.lost ≤ l.fn.run.lost + (l.number - l.sender.base);
  held : AreSmall l.run.held.items;
}
