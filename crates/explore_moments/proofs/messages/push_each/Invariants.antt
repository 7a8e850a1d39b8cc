use Rattle.std.proofs.Common.{◌≡◌, ◌+◌, ◌++◌, map, drop}
use Rattle.chorus_ui.specs.declared.ui.Ui.{Ui}
use Rattle.chorus_world.specs.Places.{copies}
use Rattle.chorus_world.specs.declared.place.Sent.{Sent}
use Rattle.explore_moments.specs.Moments.{sent_as}
use Rattle.explore_moments.proofs.messages.push_each.Given as goal

-- what is left completes them
abbrev pub invariant-loop-index : goal.invariant-loop-index
invariant-loop-index l =
    (g : Ui) → map sent_as l.copies.items ++ map (λ (m : Sent). (m.id, m.port)) (copies l.id g (l.index + 1) (drop l.index l.members))
    ≡ map sent_as l.initial.copies.items ++ map (λ (m : Sent). (m.id, m.port)) (copies l.id g 1 l.members)
