use Rattle.std.proofs.Common.{◌≡◌, ◌≤◌, ◌+◌, ◌++◌, length, reverse, vec_len, vec_capacity}
use Rattle.chorus_merge.specs.Steps.{journals_of}
use Rattle.chorus_net.specs.Closing.{journals_in, packets_of, ports_of, total_waiting, total_held}
use Rattle.chorus_net.proofs.closing.take_apart.Given as goal

abbrev pub invariant-loop-place : goal.invariant-loop-place
invariant-loop-place l = record {
  journals : journals_of l.journals.items ++ journals_in (reverse l.places.items) ≡ journals_in l.fn.places.items;
  rest : l.rest.items ++ packets_of (reverse l.places.items) ≡ packets_of l.fn.places.items;
  ports : l.ports.items ++ ports_of (reverse l.places.items) ≡ ports_of l.fn.places.items;
  room_for_journals : vec_len l.journals + length l.places.items ≤ vec_capacity l.journals;
  room_for_packets : vec_len l.rest + total_waiting (reverse l.places.items) ≤ vec_capacity l.rest;
  room_for_ports : vec_len l.ports + total_held (reverse l.places.items) ≤ vec_capacity l.ports;
}

abbrev pub decreases-loop-place : goal.decreases-loop-place
decreases-loop-place l = length l.places.items
