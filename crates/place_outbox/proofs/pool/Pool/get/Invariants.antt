use Rattle.std.proofs.Common.{◌≡◌}
use Rattle.slab.specs.Slab.{get}
use Rattle.place_outbox.specs.Chains.{key_at}
use Rattle.place_outbox.proofs.pool.Pool.get.Given as goal

abbrev pub invariant-loop-step : goal.invariant-loop-step
invariant-loop-step l = l.key ≡ key_at (get l.self-inside.nodes) l.self-inside.chains.items l.place l._step
