use Rattle.std.proofs.Common.{◌≡◌, drop}
use Rattle.std.specs.Option.{option_or}
use Rattle.law_explore.specs.Outcome.{verdict_in}
use Rattle.explore_moments.specs.Moments.{states}
use Rattle.explore_moments.proofs.messages.verdict_in.Given as goal

-- the places that are left decide where none was found
abbrev pub invariant-loop-place : goal.invariant-loop-place
invariant-loop-place l = option_or l.found (verdict_in l.id (states (drop l.place-index l.places))) ≡ verdict_in l.id (states l.places)
