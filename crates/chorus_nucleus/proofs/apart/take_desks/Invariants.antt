use Rattle.std.proofs.Common.{◌≡◌, ◌++◌, length, reverse, List}
use Rattle.chorus_entry.specs.declared.packet.Packet.{Packet}
use Rattle.chorus_ruled_ends.specs.Ruled.{Ruled}
use Rattle.chorus_serve.specs.Desks.{DeskOf}
use Rattle.chorus_nucleus.specs.Apart.{TakesDesks}
use Rattle.chorus_nucleus.proofs.apart.take_desks.Given as goal

abbrev pub invariant-loop-desk : goal.invariant-loop-desk
invariant-loop-desk l = (done : List (DeskOf Ruled Packet)) × (l.fn.desks.items ≡ done ++ reverse l.desks.items) × TakesDesks done l.all.items l.initial.heap l.heap

abbrev pub decreases-loop-desk : goal.decreases-loop-desk
decreases-loop-desk l = length l.desks.items
