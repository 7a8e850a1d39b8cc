use Rattle.std.proofs.Common.{refl, sym, ◌∙◌}
use Rattle.chorus_explore.proofs.AlikeSites.Networks.{same-caller}
use Rattle.chorus_explore.proofs.alike_sites.callers.is_same_caller.Goals as goal

pub returns : goal.returns
returns c = λ e.
    let s = (c.if-not-is_same_seat.ensures refl) in
    same-caller c.args.one.now c.args.other.now s.seat s.actor s.posts
    (sym c.hand.ensures.value ∙ (c.if-not-is_same_hand.ensures refl) ∙ c.hand-2.ensures.value)
    (sym c.client.ensures ∙ c.is_same_client-same.ensures e ∙ c.client-2.ensures)
