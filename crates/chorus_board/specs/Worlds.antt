-- What a board tells of a run of the world.
-- past is a run, the newest entry first; p is a place's number, q a port; front are entries of p, the oldest first.
use Rattle.std.specs.Prelude.{ℕ, ◌≡◌, true, List, reverse}
use mathlib.Core.List.{IsPrefix}
use Rattle.chorus_ui.specs.declared.kind.Kind.TheVariants.{Port}
use Rattle.chorus_ui.specs.declared.layout.Layout.{Layout}
use Rattle.chorus_ui.specs.declared.ui.Ui.{Ui}
use Rattle.chorus_ui.specs.Layout.{IsLayout}
use Rattle.chorus_entry.specs.declared.entry.Entry.{Entry}
use Rattle.chorus_world.specs.Views.{at}
use Rattle.chorus_world.specs.Steps.{is_legal}
use Rattle.chorus_world.specs.Order.{IsCausal}
use Rattle.chorus_board.specs.Located.{located_after, located_on}

abbrev pub BoardsTellOfTheWorld : Type 0
BoardsTellOfTheWorld =
    (l : Layout) (past : List Entry) (p : ℕ) (q : Ui) (front : List Entry) → IsLayout l → is_legal l past ≡ true →
    IsCausal past → q.kind ≡ Port → IsPrefix front (reverse (at p past)) →
    located_on l front q ≡ located_after l front q
