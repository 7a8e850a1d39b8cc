use Rattle.std.proofs.Common.{◌≡◌, ◌≤◌, ◌+◌, ◌++◌, length, vec_len, vec_capacity}
use Rattle.law_network.specs.Left.{placed_at}
use Rattle.chorus_net.proofs.closing.take_ports.Given as goal

abbrev pub invariant-loop-port : goal.invariant-loop-port
invariant-loop-port l = record {
  items : l.placed.items ++ placed_at l.place l.ports.records ≡ l.initial.placed.items ++ placed_at l.place l.initial.ports.records;
  room : vec_len l.placed + length l.ports.records ≤ vec_capacity l.placed;
  capacity : vec_capacity l.placed ≡ vec_capacity l.initial.placed;
}

abbrev pub decreases-loop-port : goal.decreases-loop-port
decreases-loop-port l = length l.ports.records
