use Rattle.std.proofs.Common.{◌≡◌, drop}
use Rattle.law_explore.specs.Outcome.{held_in}
use Rattle.explore_moments.specs.Moments.{states}
use Rattle.explore_moments.proofs.ports.held_in.Given as goal

-- none of the places passed holds it
abbrev pub invariant-loop-place : goal.invariant-loop-place
invariant-loop-place l = held_in l.port (states (drop l.place-index l.places)) ≡ held_in l.port (states l.places)
