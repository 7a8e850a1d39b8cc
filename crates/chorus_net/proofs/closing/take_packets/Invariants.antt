use Rattle.std.proofs.Common.{◌≡◌, ◌≤◌, ◌+◌, ◌++◌, vec_len, vec_capacity}
use Rattle.place_outbox.specs.Waiting.{count}
use Rattle.chorus_net.specs.Closing.{flat}
use Rattle.chorus_net.proofs.closing.take_packets.Given as goal

abbrev pub invariant-loop-packet : goal.invariant-loop-packet
invariant-loop-packet l = record {
  items : l.rest.items ++ flat l.out.lists ≡ l.initial.rest.items ++ flat l.initial.out.lists;
  room : vec_len l.rest + count l.out.lists ≤ vec_capacity l.rest;
  capacity : vec_capacity l.rest ≡ vec_capacity l.initial.rest;
}

abbrev pub decreases-loop-packet : goal.decreases-loop-packet
decreases-loop-packet l = count l.out.lists
