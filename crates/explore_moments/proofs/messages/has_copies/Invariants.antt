use Rattle.std.proofs.Common.{◌≡◌, drop}
use Rattle.law_explore.specs.Outcome.{copies_in}
use Rattle.explore_moments.specs.Moments.{has_some, states}
use Rattle.explore_moments.proofs.messages.has_copies.Given as goal

-- none of the places passed tells of one
abbrev pub invariant-loop-place : goal.invariant-loop-place
invariant-loop-place l = has_some (copies_in l.id (states (drop l.place-index l.places))) ≡ has_some (copies_in l.id (states l.places))
