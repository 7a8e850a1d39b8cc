use Rattle.std.proofs.Common.{◌≡◌, ◌+◌, drop}
use Rattle.place_outbox.specs.Waiting.{first_place}
use Rattle.place_outbox.proofs.outbox.Outbox.first_place.Given as goal

abbrev pub invariant-loop-place : goal.invariant-loop-place
invariant-loop-place l = first_place l.self.lists ≡ l.place + first_place (drop l.place l.self.lists)
