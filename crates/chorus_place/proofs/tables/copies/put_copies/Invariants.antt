use Rattle.std.proofs.Common.{length}
use Rattle.chorus_place.specs.PlaceTables.Groups.{Putting}
use Rattle.chorus_place.proofs.tables.copies.put_copies.Given as goal

abbrev pub invariant-loop-copy : goal.invariant-loop-copy
invariant-loop-copy l = Putting l.group l.initial.left.items l.initial.waits l.waits l.left.items

abbrev pub decreases-loop-copy : goal.decreases-loop-copy
decreases-loop-copy l = length l.left.items
