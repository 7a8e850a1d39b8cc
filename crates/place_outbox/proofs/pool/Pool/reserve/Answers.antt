use Rattle.std.proofs.Common.{sym, subst}
use Rattle.slab.specs.Slab.{get}
use Rattle.place_outbox.specs.Chains.{IsPool}
use Rattle.place_outbox.proofs.pool.Pool.reserve.Goals as goal

pub invariant_of-self : goal.invariant_of-self
invariant_of-self c =
    subst (λ s. IsPool (get s) c.self.inside.chains.items c.self.inside.puts c.self.inside.waiting) (sym c.reserve.ensures.rest_kept) c.self.invariant
