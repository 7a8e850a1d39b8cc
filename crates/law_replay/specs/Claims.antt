-- Claims are read over.
-- c is a scenario.
use Rattle.std.specs.Prelude.{◌≡◌, ℕ, List}
use Rattle.chorus_scene.specs.Scene.{Scene, with_claims}
use Rattle.chorus_replay.specs.Order.{tasks}
use Rattle.law_replay.specs.Shown.{race_of}

-- whatever a scenario claims, its replay has the same tasks, and its race begins the same
abbrev pub ClaimsAreReadOver : Type 0
ClaimsAreReadOver =
    (c : Scene) (claims : List (List ℕ)) →
    (tasks (with_claims claims c) ≡ tasks c) × (race_of (with_claims claims c) ≡ race_of c)
