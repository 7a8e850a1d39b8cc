use Rattle.std.proofs.Common.{◌≡◌, ◌+◌, ◌≤◌, length, All}
use Rattle.std.specs.VecDeque.{deque_capacity}
use Rattle.chorus_place.specs.PlaceTables.Sending.{IsFor, with_all}
use Rattle.chorus_place.proofs.tables.outbox.move_all.Given as goal

abbrev pub invariant-loop-outgoing : goal.invariant-loop-outgoing
invariant-loop-outgoing l =
    (with_all l.puts.items l.out.lists ≡ with_all l.initial.puts.items l.initial.out.lists)
    × All (IsFor l.out) l.puts.items
    × (length l.puts.items ≤ l.out.spare)
    × (l.out.puts + length l.puts.items ≡ l.initial.out.puts + length l.initial.puts.items)
    × (l.initial.out.spare + length l.puts.items ≤ l.out.spare + length l.initial.puts.items)
    × (deque_capacity l.puts ≡ deque_capacity l.initial.puts)

abbrev pub decreases-loop-outgoing : goal.decreases-loop-outgoing
decreases-loop-outgoing l = length l.puts.items
