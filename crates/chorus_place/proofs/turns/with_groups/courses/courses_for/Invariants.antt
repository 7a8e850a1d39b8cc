use Rattle.std.proofs.Common.{◌≡◌, ◌≤◌, take}
use Rattle.std.specs.VecDeque.{deque_len, deque_capacity}
use Rattle.chorus_place.specs.PlaceTables.Tables.{state}
use Rattle.chorus_place.specs.PlaceTables.Groups.{courses_of}
use Rattle.chorus_place.proofs.turns.with_groups.courses.courses_for.Given as goal

abbrev pub invariant-loop-at : goal.invariant-loop-at
invariant-loop-at l =
    (l.made.items ≡ courses_of l.group (state l.tables) (take l.at l.copies.items)) × (deque_len l.made ≡ l.at) × (l.len ≤ deque_capacity l.made)
