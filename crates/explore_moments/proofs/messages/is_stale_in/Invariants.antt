use Rattle.std.proofs.Common.{◌≡◌, drop}
use Rattle.law_explore.specs.Outcome.{is_stale_in}
use Rattle.explore_moments.specs.Moments.{states}
use Rattle.explore_moments.proofs.messages.is_stale_in.Given as goal

-- none of the places passed tells it
abbrev pub invariant-loop-place : goal.invariant-loop-place
invariant-loop-place l = is_stale_in l.id (states (drop l.place-index l.places)) ≡ is_stale_in l.id (states l.places)
