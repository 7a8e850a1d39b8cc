use Rattle.std.proofs.Common.{◌≡◌, ◌+◌, ◌≤◌, length}
use Rattle.chorus_place.specs.PlaceTables.Tables.{turn}
use Rattle.chorus_place.specs.PlaceTables.Going.{Going, waits_for, reports_for}
use Rattle.chorus_place.specs.PlaceTables.Room.{KeepsRoom}
use Rattle.chorus_place.proofs.tables.Tables.go_on.Given as goal

abbrev pub invariant-loop : goal.invariant-loop
invariant-loop l =
    Going l.key l.again (turn l.initial.self l.initial.caller) (turn l.self l.caller) l.self.journal.spare l.self.room (reports_for l.key l.self)
    × (l.self.out ≡ l.initial.self.out)
    × (l.initial.self.journal.spare + length (waits_for l.key l.self) ≤ l.self.journal.spare + length (waits_for l.key l.initial.self))
    × (l.initial.self.room + reports_for l.key l.self ≤ l.self.room + reports_for l.key l.initial.self)
    × KeepsRoom l.initial.self l.self

abbrev pub decreases-loop : goal.decreases-loop
decreases-loop l = length (waits_for l.key l.self)
