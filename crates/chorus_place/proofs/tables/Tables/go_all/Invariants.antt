use Rattle.std.proofs.Common.{◌≡◌, length}
use Rattle.chorus_place.specs.PlaceTables.Tables.{turn}
use Rattle.chorus_place.specs.PlaceTables.Groups.{AllGoing, ports_of}
use Rattle.chorus_place.specs.PlaceTables.Room.{KeepsRoom}
use Rattle.chorus_place.proofs.tables.Tables.go_all.Given as goal

abbrev pub invariant-loop-course : goal.invariant-loop-course
invariant-loop-course l =
    AllGoing l.group (ports_of l.initial.left.items) (turn l.initial.self l.initial.caller) (turn l.self l.caller) l.left.items l.self.journal.spare l.self.room
    × (l.self.out ≡ l.initial.self.out)
    × KeepsRoom l.initial.self l.self

abbrev pub decreases-loop-course : goal.decreases-loop-course
decreases-loop-course l = length l.left.items
