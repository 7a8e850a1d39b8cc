-- A choice of members, as it is given out.
use Rattle.std.specs.Prelude.{List, [], ◌∷◌}
use Rattle.chorus_ui.specs.declared.ui.Ui.{Ui}
use Rattle.chorus_groups.specs.declared.choice.Choice.{Choice}
use Rattle.chorus_groups.specs.declared.choice.Choice.TheVariants.{Members, NoMember}

abbrev pub made_of : List Ui → Choice
made_of [] = NoMember
made_of (q ∷ qs) = Members (q ∷ qs)

-- its members
abbrev pub chosen_in : Choice → List Ui
chosen_in NoMember = []
chosen_in (Members qs) = qs
