use Rattle.place_outbox.specs.Waiting.{list_to}
use Rattle.chorus_explore.specs.AlikeSites.Packets.{are_plain}
use Rattle.chorus_explore.proofs.AlikeSites.Lists.{SameBelow}
use Rattle.chorus_explore.proofs.alike_sites.packets.are_same_to.Given as goal

-- those passed carry the same
abbrev pub invariant-loop-at : goal.invariant-loop-at
invariant-loop-at l = SameBelow (are_plain (list_to l.to l.one.lists)) (are_plain (list_to l.to l.other.lists)) l.at
