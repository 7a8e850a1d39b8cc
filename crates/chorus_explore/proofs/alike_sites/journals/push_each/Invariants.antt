use Rattle.std.proofs.Common.{◌≡◌, ◌+◌, ◌++◌, drop}
use Rattle.chorus_ui.specs.declared.ui.Ui.{Ui}
use Rattle.chorus_world.specs.Places.{copies}
use Rattle.chorus_explore.specs.AlikeSites.Journals.{ids_of}
use Rattle.chorus_explore.proofs.alike_sites.journals.push_each.Given as goal

-- what is left completes them
abbrev pub invariant-loop-index : goal.invariant-loop-index
invariant-loop-index l = (g : Ui) → l.ids.items ++ ids_of (copies l.id g (l.index + 1) (drop l.index l.members)) ≡ l.initial.ids.items ++ ids_of (copies l.id g 1 l.members)
