use Rattle.std.proofs.Common.{◌≡◌, map, drop}
use Rattle.law_explore.specs.Moment.{at_position}
use Rattle.explore_moments.specs.Moments.{accepted_as}
use Rattle.explore_moments.proofs.ports.at_position.Given as goal

-- none of those passed was accepted there
abbrev pub invariant-loop-accepted : goal.invariant-loop-accepted
invariant-loop-accepted l = at_position (map accepted_as (drop l.accepted-index l.accepts)) l.position ≡ at_position (map accepted_as l.accepts) l.position
