use Rattle.std.proofs.Common.{ap, sym, ◌∙◌, Some}
use Rattle.std.specs.HashMap.{get}
use Rattle.chorus_entry.specs.MsgId.{same_id}
use Rattle.chorus_entry.proofs.Same.{from_same_id}
use Rattle.chorus_entry.specs.Same.{are_same}
use Rattle.chorus_world.proofs.Messages.SendingLemmas.{same_id_sym}
use Rattle.checker_rows.specs.Messages.{no_message, about_after, message_in}
use Rattle.checker_rows.proofs.Keeping.{put_row}
use Rattle.checker_rows.proofs.MessageLemmas.{about_apart}
use Rattle.checker_rows.proofs.messages.follow_about.Goals as goal

pub returns-in-Some-clause-rows : goal.returns-in-Some-clause-rows
returns-in-Some-clause-rows c =
    let e = c.args.entry.now in
    put_row same_id from_same_id no_message (λ x r. about_after x e r) (get same_id c.args.messages.now) (get same_id c.put_message.new.messages) c.in-Some.id c.about_after.result c.put_message.ensures.rows
    (c.about_after.ensures ∙ ap (about_after c.in-Some.id e) c.message_in-row.ensures)
    (λ q h r. about_apart q e (ap (are_same same_id (Some q)) (sym c.in-Some.ensures) ∙ same_id_sym q c.in-Some.id ∙ h) r)

pub returns-in_default-clause-rows : goal.returns-in_default-clause-rows
returns-in_default-clause-rows c = λ x.
    sym (about_apart x c.args.entry.now (ap (are_same same_id (Some x)) (sym c.message.ensures ∙ c.in_default.is)) (message_in c.args.messages.now x))
