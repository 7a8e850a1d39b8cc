use Rattle.std.proofs.Common.{ap, ◌∙◌, replicate, ◌+◌}
use Rattle.place_outbox.specs.Chains.{no_chain}
use Rattle.place_outbox.proofs.Whole.{new-pool, new-lists}
use Rattle.place_outbox.proofs.pool.Pool.with_places.Goals as goal

pub invariant_of-result : goal.invariant_of-result
invariant_of-result c = new-pool _ _ _ (c.in_ok-chains.ensures.items_if_clones_equal (λ y h. h))

pub returns-clause-lists : goal.returns-clause-lists
returns-clause-lists c =
    new-lists _ _ _ (c.in_ok-chains.ensures.items_if_clones_equal (λ y h. h) ∙ ap (λ n. replicate (n + 1) no_chain) c.from.ensures)
