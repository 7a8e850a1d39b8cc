use Rattle.std.proofs.Common.{◌≡◌, take}
use Rattle.std.specs.List.{flat_map}
use Rattle.law_machine.specs.PlaceState.{PlaceState}
use Rattle.law_explore.specs.Outcome.{made_by}
use Rattle.explore_moments.specs.Moments.{states}
use Rattle.explore_moments.proofs.ports.made_at.Given as goal

-- those that the places passed made
abbrev pub invariant-loop-place : goal.invariant-loop-place
invariant-loop-place l = l.made.items ≡ flat_map (λ (s : PlaceState). made_by s.journal) (states (take l.place-index l.places))
