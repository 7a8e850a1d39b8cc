use Rattle.std.proofs.Common.{◌≡◌, ap, ◌∙◌, reverse, is_some, true}
use Rattle.chorus_world.specs.Places.{find_sent, is_tried, sent}
use Rattle.chorus_world.specs.Steps.{State}
use Rattle.chorus_world.specs.Views.{at}
use Rattle.checker_ledger.proofs.SendLemmas.{tried_is}
use Rattle.checker_ledger.proofs.ledger.Ledger.is_tried.Goals as goal

pub returns : goal.returns
returns c =
    let past = reverse c.self.inside.entries.items in
    let x = c.args.id in
    let p = c.args.place in
    let found : is_some (find_sent x (sent (at p past))) ≡ true = ap (λ (w : State). is_some (find_sent x (sent (at p w.past)))) c.self.view_is ∙ c.requires in
    c.is_tried_in.ensures
    ∙ (ap (λ r. r.tried) (c.self.invariant.1.messages x)
    ∙ (tried_is c.self.inside.layout past x p c.self.invariant.0 found ∙ ap (λ (w : State). is_tried x (at p w.past)) c.self.view_is))
