use Rattle.std.proofs.Common.{◌≡◌, ◌≤◌, take}
use Rattle.std.specs.VecDeque.{deque_len, deque_capacity}
use Rattle.chorus_place.specs.PlaceTurns.WithGroups.GroupTurns.{copies}
use Rattle.chorus_place.proofs.turns.with_groups.group_turns.copies_for.Given as goal

abbrev pub invariant-loop-at : goal.invariant-loop-at
invariant-loop-at l = (l.made.items ≡ copies l.message l.dest l.home 1 (take l.at l.members)) × (deque_len l.made ≡ l.at) × (l.len ≤ deque_capacity l.made)
