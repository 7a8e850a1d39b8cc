use Rattle.std.proofs.Common.{◌≡◌, ◌+◌}
use Rattle.chorus_transport.specs.Sending.{next_number}
use Rattle.chorus_transport.specs.Receiving.{Receiving}
use Rattle.chorus_lossy.specs.declared.rounds.Run.{Run}
use Rattle.chorus_lossy.specs.Rounds.{Moment, room, puts}
use Rattle.chorus_lossy.specs.Running.{IsAt}
use Rattle.chorus_lossy.proofs.rounds.fill.Given as goal

abbrev pub invariant-loop : goal.invariant-loop
invariant-loop l = record {
  at : (m : Moment) (run : Run) (r : Receiving) → IsAt m run l.fn.sender r → IsAt (puts l.bytes l.counter m) run l.sender r;
  next : next_number l.sender ≡ next_number l.fn.sender + l.counter;
  window : l.sender.window ≡ 8;
  room : l.room ≡ room l.bytes l.fn.sender;
}
