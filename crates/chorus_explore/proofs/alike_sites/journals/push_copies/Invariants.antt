use Rattle.std.proofs.Common.{◌≡◌, ◌++◌, reverse, take}
use Rattle.chorus_world.specs.GroupLaws.{copies_of}
use Rattle.chorus_explore.specs.AlikeSites.Journals.{ids_of}
use Rattle.chorus_explore.proofs.alike_sites.journals.push_copies.Given as goal

-- those that the entries passed make
abbrev pub invariant-loop-entry : goal.invariant-loop-entry
invariant-loop-entry l = l.ids.items ≡ l.initial.ids.items ++ ids_of (copies_of l.id (reverse (take l.entry-index l.journal)))
