use Rattle.std.proofs.Common.{◌≡◌, ◌+◌, ◌≤◌, drop, length}
use Rattle.place_unsettled.specs.Queues.{queue}
use Rattle.chorus_place.specs.PlaceTables.Groups.{waiting_for}
use Rattle.chorus_place.proofs.turns.with_groups.courses.count_waiting.Given as goal

abbrev pub invariant-loop-at : goal.invariant-loop-at
invariant-loop-at l =
    (l.count + waiting_for l.group (drop l.at l.members) (queue l.tables.waits) + length (drop l.at l.members) ≡ waiting_for l.group l.members (queue l.tables.waits) + length l.members)
    × (l.count ≤ 4611686018427387904)
