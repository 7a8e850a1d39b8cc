use Rattle.std.proofs.Common.{refl, ap, ◌∙◌}
use Rattle.slab.specs.Slab.{get}
use Rattle.place_outbox.specs.Waiting.{list_to}
use Rattle.place_outbox.specs.Fronts.{is_filled}
use Rattle.place_outbox.specs.Chains.{no_chain}
use Rattle.place_outbox.proofs.Lists.{within, any-default}
use Rattle.place_outbox.proofs.Whole.{filled-chain}
use Rattle.place_outbox.proofs.pool.Pool.is_filled.Goals as goal

pub returns : goal.returns
returns c =
    let l = within (get c.self.inside.nodes) c.self.inside.chains.items _ c.args.place c.args.place (ap (λ v. v.lists) c.self.view_is) c.requires refl in
    let at = c.index.ensures ∙ any-default c.self.inside.chains.items c.args.place c.index.result.now no_chain l in
    filled-chain _ _ _ _ c.args.place c.index.result.now c.self.invariant at
    ∙ ap (λ v. is_filled (list_to c.args.place v.lists)) c.self.view_is
