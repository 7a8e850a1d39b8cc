use Rattle.std.proofs.Common.{◌≡◌, ◌≤◌, ◌+◌, replicate, None}
use Rattle.std.specs.Vec.{vec_capacity}
use Rattle.place_outbox.proofs.outbox.Outbox.with_places.Given as goal

abbrev pub invariant-loop-place : goal.invariant-loop-place
invariant-loop-place l = (l.fronts.items ≡ replicate l._place None) × (l.places + 1 ≤ vec_capacity l.fronts)
