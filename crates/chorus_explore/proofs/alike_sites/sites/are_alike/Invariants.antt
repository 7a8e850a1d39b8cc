use Rattle.std.proofs.Common.{ℕ, ◌≡◌, ◌<◌, Some, slice_get}
use Rattle.chorus_place.specs.Calls.{Place}
use Rattle.chorus_explore.specs.AlikeSites.Places.{SamePlace}
use Rattle.chorus_explore.proofs.alike_sites.sites.are_alike.Given as goal

-- the places passed are alike
abbrev pub invariant-loop-at : goal.invariant-loop-at
invariant-loop-at l =
    (i : ℕ) → i < l.at → (p q : Place) → slice_get l.one.places i ≡ Some p → slice_get l.other.places i ≡ Some q → SamePlace l.asks p q
