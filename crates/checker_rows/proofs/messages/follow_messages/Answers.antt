use Rattle.std.proofs.Common.{ap, ◌∙◌}
use Rattle.checker_rows.specs.Messages.{copies_as, message_in, with_sending}
use Rattle.checker_rows.proofs.MessageLemmas.{both_after}
use Rattle.checker_rows.proofs.messages.follow_messages.Goals as goal

pub returns : goal.returns
returns c = λ x.
    let e = c.args.entry.now in
    c.follow_copies.ensures x
    ∙ (ap (with_sending (copies_as x e.place e.act)) (c.follow_about.ensures.rows x)
    ∙ both_after x e (message_in c.args.messages.now x))
