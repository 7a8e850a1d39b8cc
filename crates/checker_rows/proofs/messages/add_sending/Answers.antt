use Rattle.std.proofs.Common.{ap, ◌∙◌, Some}
use Rattle.std.specs.HashMap.{get}
use Rattle.chorus_entry.specs.MsgId.{same_id}
use Rattle.checker_rows.specs.Messages.{with_sending}
use Rattle.checker_rows.proofs.MessageLemmas.{row_added}
use Rattle.checker_rows.proofs.messages.add_sending.Goals as goal

pub returns-clause-rows : goal.returns-clause-rows
returns-clause-rows c =
    row_added (get same_id c.args.messages.now) (get same_id c.put_message.new.messages) c.args.id c.with_sending.result c.args.sending c.put_message.ensures.rows
    (c.with_sending.ensures ∙ ap (with_sending (Some c.args.sending)) c.message_in-row.ensures)
