use Rattle.std.proofs.Common.{◌≡◌, ◌+◌, ◌-◌, ◌≤◌, ◌++◌, replicate, None}
use Rattle.std.specs.VecDeque.{deque_len, deque_capacity}
use Rattle.chorus_transport.proofs.window_slots.widen.Given as goal

abbrev pub invariant-loop : goal.invariant-loop
invariant-loop l = record {
  widened : l.places.items ≡ l.fn.places.items ++ replicate l.counter None;
  room : deque_len l.places + (l.missing - l.counter) ≤ deque_capacity l.places;
}
