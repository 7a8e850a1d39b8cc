use Rattle.std.proofs.Common.{◌≡◌, take}
use Rattle.place_unsettled.specs.declared.wait.Key.{Key}
use Rattle.place_unsettled.specs.Queues.{queue}
use Rattle.chorus_place.specs.PlaceTables.Groups.{HaveLines}
use Rattle.chorus_place.proofs.tables.copies.make_lines.Given as goal

abbrev pub invariant-loop-at : goal.invariant-loop-at
invariant-loop-at l = ((k : Key) → queue l.waits k ≡ queue l.initial.waits k) × HaveLines l.group l.waits (take l.at l.members)
