use Rattle.std.proofs.Common.{◌≡◌, ◌+◌, drop}
use Rattle.chorus_net.specs.Closing.{total_waiting}
use Rattle.chorus_net.proofs.closing.count_packets.Given as goal

abbrev pub invariant-loop-place : goal.invariant-loop-place
invariant-loop-place l = l.number + total_waiting (drop l.place-index l.places) ≡ total_waiting l.places
