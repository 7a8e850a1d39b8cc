use Rattle.std.proofs.Common.{◌-◌, ◌≤◌, length, is_some}
use Rattle.std.specs.List.{prefix_len}
use Rattle.chorus_transport.proofs.window_slots.filled.Given as goal

abbrev pub invariant-loop-ready : goal.invariant-loop-ready
invariant-loop-ready l = l.ready ≤ prefix_len is_some l.places.items

abbrev pub decreases-loop-ready : goal.decreases-loop-ready
decreases-loop-ready l = length l.places.items - l.ready
