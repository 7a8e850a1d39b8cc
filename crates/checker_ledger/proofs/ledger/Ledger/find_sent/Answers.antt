use Rattle.std.proofs.Common.{ap, ◌∙◌, reverse}
use Rattle.chorus_world.specs.Places.{find_sent, sent}
use Rattle.chorus_world.specs.Steps.{State}
use Rattle.chorus_world.specs.Views.{at}
use Rattle.checker_rows.specs.Messages.{sent_from}
use Rattle.checker_ledger.proofs.SendLemmas.{sent_is}
use Rattle.checker_ledger.proofs.ledger.Ledger.find_sent.Goals as goal

pub returns : goal.returns
returns c =
    let past = reverse c.self.inside.entries.items in
    let x = c.args.id in
    let p = c.args.place in
    c.sent_in.ensures
    ∙ (ap (λ r. sent_from p x r.sent) (c.self.invariant.1.messages x)
    ∙ (sent_is c.self.inside.layout past x p c.self.invariant.0 ∙ ap (λ (w : State). find_sent x (sent (at p w.past))) c.self.view_is))
