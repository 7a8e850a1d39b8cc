use Rattle.std.proofs.Common.{ap, ◌∙◌}
use Rattle.place_outbox.specs.Waiting.{count}
use Rattle.place_outbox.proofs.Whole.{count-pool}
use Rattle.place_outbox.proofs.pool.Pool.waiting.Goals as goal

pub returns : goal.returns
returns c = count-pool _ _ _ _ c.self.invariant ∙ ap (λ v. count v.lists) c.self.view_is
