-- A moment is in what is closed later: of each place the first entries of its journal.
-- l is a layout, es are events and fs those behind them, the latest first.
use Rattle.std.specs.Prelude.{◌≡◌, true, List, [], ◌∷◌, ◌++◌}
use Rattle.chorus_ui.specs.declared.layout.Layout.{Layout}
use Rattle.chorus_ui.specs.Layout.{IsLayout}
use Rattle.law_network.specs.Left.{journals}
use Rattle.law_network.specs.Network.{Event, schedule}
use Rattle.law_network.specs.Schedules.{may_be}

-- lists, as many, of which each is the front of the other
abbrev pub AreFronts : {X : Type 0} → List (List X) → List (List X) → Type 0
AreFronts [] [] = Unit {0}
AreFronts [] (ys ∷ yss) = ⊥
AreFronts (xs ∷ xss) [] = ⊥
AreFronts (xs ∷ xss) (ys ∷ yss) = ((rest : List _) × (ys ≡ xs ++ rest)) × AreFronts xss yss

abbrev pub MomentsAreFronts : Type 0
MomentsAreFronts =
    (l : Layout) (fs es : List Event) → IsLayout l → may_be l (fs ++ es) ≡ true →
    AreFronts (journals (schedule l es)) (journals (schedule l (fs ++ es)))
