use Rattle.std.proofs.Common.{ℕ, ◌≡◌, ◌≢◌, ◌++◌, length}
use Rattle.place_outbox.specs.Waiting.{list_to}
use Rattle.chorus_nucleus.proofs.leavings.take_waiting.Given as goal

abbrev pub invariant-loop-packet : goal.invariant-loop-packet
invariant-loop-packet l = record {
  packets : l.packets.items ++ list_to l.place l.out.lists ≡ l.initial.packets.items ++ list_to l.place l.initial.out.lists;
  others : (q : ℕ) → q ≢ l.place → list_to q l.out.lists ≡ list_to q l.initial.out.lists;
}

abbrev pub decreases-loop-packet : goal.decreases-loop-packet
decreases-loop-packet l = length (list_to l.place l.out.lists)
