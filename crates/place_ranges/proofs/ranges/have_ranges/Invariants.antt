use Rattle.std.proofs.Common.{◌≡◌, drop}
use Rattle.std.specs.List.{list_all}
use Rattle.chorus_entry.specs.Ranges.{has_ranges_of_message}
use Rattle.place_ranges.proofs.ranges.have_ranges.Given as goal

abbrev pub invariant-loop-at : goal.invariant-loop-at
invariant-loop-at l = list_all has_ranges_of_message l.pending ≡ list_all has_ranges_of_message (drop l.at l.pending)
