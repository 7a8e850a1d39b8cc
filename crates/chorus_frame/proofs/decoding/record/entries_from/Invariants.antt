use Rattle.std.proofs.Common.{◌≡◌, ◌-◌, ◌+◌, ◌≤◌, length}
use Rattle.chorus_ui.specs.declared.limits.TheConstants.{CLIENTS_LIMIT}
use Rattle.chorus_frame.specs.Reading.{entries_at}
use Rattle.chorus_frame.proofs.decoding.record.entries_from.Given as goal

abbrev pub invariant-loop : goal.invariant-loop
invariant-loop l = record {
  read : entries_at l.clients (l.count - l.counter) l.reader ≡ entries_at l.fn.clients l.count l.fn.reader;
  room : length l.clients + (l.count - l.counter) ≤ CLIENTS_LIMIT;
}
