-- What a clause says of the two ends of a bell.
use Rattle.std.specs.Prelude.{ℕ, List, length}
use Rattle.std.specs.Arc.{arc_value}
use Rattle.atomic_table.specs.Seated.{TableId}
use Rattle.crossbeam_utils.specs.Token.{parker_view}
use Rattle.chorus_choose.specs.declared.bell_ends.Ringer.{Ringer}
use Rattle.chorus_choose.specs.declared.bell_ends.Waiter.{Waiter}

-- which bell it is of
abbrev pub ringer_bell : Ringer → TableId
ringer_bell r = (arc_value r.unparker.state).shared.table_id

abbrev pub waiter_bell : Waiter → TableId
waiter_bell w = (arc_value w.parker.unparker.state).shared.table_id

-- of each token that it took, how much the pass of the caller had made before it waited; 0 where no pass was shown
abbrev pub notes_of : Waiter → List ℕ
notes_of w = (parker_view w.pass).waits

-- how many tokens it took
abbrev pub waits_of : Waiter → ℕ
waits_of w = length (notes_of w)
