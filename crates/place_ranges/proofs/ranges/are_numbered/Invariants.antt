use Rattle.std.proofs.Common.{◌≡◌, drop}
use Rattle.std.specs.List.{list_all}
use Rattle.chorus_entry.specs.Ranges.{has_range_of_client}
use Rattle.place_ranges.proofs.ranges.are_numbered.Given as goal

abbrev pub invariant-loop-at : goal.invariant-loop-at
invariant-loop-at l = list_all has_range_of_client l.clients ≡ list_all has_range_of_client (drop l.at l.clients)
