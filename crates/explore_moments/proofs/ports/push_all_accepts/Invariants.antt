use Rattle.std.proofs.Common.{◌≡◌, ◌++◌, map, take}
use Rattle.law_explore.specs.Moment.{accepts_in}
use Rattle.explore_moments.specs.Moments.{accepted_as, states}
use Rattle.explore_moments.proofs.ports.push_all_accepts.Given as goal

-- those that the places passed tell of
abbrev pub invariant-loop-place : goal.invariant-loop-place
invariant-loop-place l = map accepted_as l.accepts.items ≡ map accepted_as l.initial.accepts.items ++ accepts_in l.port (states (take l.place-index l.places))
