use Rattle.std.proofs.Common.{◌≡◌, ◌+◌, drop}
use Rattle.chorus_net.specs.Closing.{total_held}
use Rattle.chorus_net.proofs.closing.count_ports.Given as goal

abbrev pub invariant-loop-place : goal.invariant-loop-place
invariant-loop-place l = l.number + total_held (drop l.place-index l.places) ≡ total_held l.places
