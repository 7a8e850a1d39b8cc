use Rattle.std.proofs.Common.{◌≡◌, ◌++◌, length}
use Rattle.law_network.specs.Left.{placed_at}
use Rattle.chorus_nucleus.proofs.apart.take_ports.Given as goal

abbrev pub invariant-loop-port : goal.invariant-loop-port
invariant-loop-port l = l.placed.items ++ placed_at l.place l.ports.records ≡ l.initial.placed.items ++ placed_at l.place l.initial.ports.records

abbrev pub decreases-loop-port : goal.decreases-loop-port
decreases-loop-port l = length l.ports.records
