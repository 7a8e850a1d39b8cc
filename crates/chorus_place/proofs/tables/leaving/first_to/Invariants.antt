use Rattle.std.proofs.Common.{◌≡◌, ◌++◌, drop}
use Rattle.std.specs.Prelude.{option_to_list}
use Rattle.std.specs.Option.{option_copied}
use Rattle.place_unsettled.specs.Queues.{queue}
use Rattle.chorus_place.specs.PlaceTables.Going.{first_to}
use Rattle.chorus_place.proofs.tables.leaving.first_to.Given as goal

abbrev pub invariant-loop-at : goal.invariant-loop-at
invariant-loop-at l =
    first_to l.layout l.to (drop l.start (queue l.waits l.key).waits ++ option_to_list (option_copied l.last))
    ≡ first_to l.layout l.to (drop l.at (queue l.waits l.key).waits ++ option_to_list (option_copied l.last))
