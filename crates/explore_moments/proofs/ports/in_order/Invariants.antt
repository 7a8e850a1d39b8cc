use Rattle.std.proofs.Common.{◌≡◌, map}
use Rattle.std.specs.List.{filter_map}
use Rattle.law_network.specs.Network.{numbers}
use Rattle.law_explore.specs.Moment.{at_position}
use Rattle.explore_moments.specs.Moments.{accepted_as}
use Rattle.explore_moments.proofs.ports.in_order.Given as goal

-- those of the positions passed
abbrev pub invariant-loop-index : goal.invariant-loop-index
invariant-loop-index l = l.ids.items ≡ filter_map (at_position (map accepted_as l.accepts)) (numbers l.index 0)
