-- Which pairs of a port and an actor a crew may be given.
-- l is a layout, q a port.
use Rattle.std.specs.Prelude.{Bool, true, ◌&&◌, not, nat_le, List, [], ◌∷◌, length}
use Rattle.std.specs.List.{list_all}
use Rattle.chorus_ui.specs.declared.ui.Ui.{Ui}
use Rattle.chorus_ui.specs.declared.layout.Layout.{Layout}
use Rattle.chorus_ui.specs.Layout.{has_actor}
use Rattle.chorus_ui.specs.Name.{same_ui}
use Rattle.chorus_ui.specs.NameKind.{is_actor, is_port}
use Rattle.chorus_crew.specs.declared.pairs.TheConstants.{PAIRS_LIMIT}

-- a port, and an actor of the layout
abbrev pub is_pair : Layout → Ui × Ui → Bool
is_pair l p = is_port p.0 && (is_actor p.1 && has_actor l p.1)

abbrev pub is_free : Ui → List (Ui × Ui) → Bool
is_free q pairs = list_all (λ (p : Ui × Ui). not (same_ui p.0 q)) pairs

-- no two have the same port
abbrev pub are_distinct : List (Ui × Ui) → Bool
are_distinct [] = true
are_distinct (p ∷ pairs) = is_free p.0 pairs && are_distinct pairs

abbrev pub are_pairs : Layout → List (Ui × Ui) → Bool
are_pairs l pairs = nat_le (length pairs) PAIRS_LIMIT && (list_all (is_pair l) pairs && are_distinct pairs)
