use Rattle.std.proofs.Common.{◌≡◌, ◌-◌, ◌+◌, ◌≤◌, length}
use Rattle.chorus_ui.specs.declared.limits.TheConstants.{PENDING_LIMIT}
use Rattle.chorus_frame.specs.Reading.{messages_at}
use Rattle.chorus_frame.proofs.decoding.record.messages_from.Given as goal

abbrev pub invariant-loop : goal.invariant-loop
invariant-loop l = record {
  read : messages_at l.pending (l.count - l.counter) l.reader ≡ messages_at l.fn.pending l.count l.fn.reader;
  room : length l.pending + (l.count - l.counter) ≤ PENDING_LIMIT;
}
