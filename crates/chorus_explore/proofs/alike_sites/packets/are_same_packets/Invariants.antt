use Rattle.std.proofs.Common.{map}
use Rattle.chorus_explore.specs.AlikeSites.Packets.{are_plain}
use Rattle.chorus_explore.proofs.AlikeSites.Lists.{SameBelow}
use Rattle.chorus_explore.proofs.alike_sites.packets.are_same_packets.Given as goal

-- the lists passed carry the same
abbrev pub invariant-loop-to : goal.invariant-loop-to
invariant-loop-to l = SameBelow (map are_plain l.one.lists) (map are_plain l.other.lists) l.to
