use Rattle.std.proofs.Common.{◌<◌, ap, sym, subst, ◌∙◌}
use Rattle.chorus_ui.specs.declared.limits.TheConstants.{CLOCK_LIMIT}
use Rattle.chorus_entry.specs.declared.command.Command.TheVariants as Command
use Rattle.chorus_entry.specs.declared.tag.Tag.TheVariants as Tag
use Rattle.chorus_calls.specs.Again.{call_again}
use Rattle.chorus_calls.specs.Clients.{Calling}
use Rattle.law_machine.specs.PlaceState.{greatest_clock}
use Rattle.law_machine.specs.Own.{next_message, retry_act}
use Rattle.chorus_place.specs.PlaceTables.Tables.{turn}
use Rattle.chorus_place.proofs.PlaceTurns.Posting.{on_err}
use Rattle.chorus_place.proofs.PlaceTurns.CallTurns.{post-done, same-call}
use Rattle.chorus_place.proofs.turns.calls.retry.Goals as goal

pub returns-in_err-ready-clause-refused : goal.returns-in_err-ready-clause-refused
returns-in_err-ready-clause-refused c = on_err _ _ (c.ready_post.ensures.turn c.args.caller.now)

pub post_prepared-requires-clause-clock : goal.post_prepared-requires-clause-clock
post_prepared-requires-clause-clock c =
    subst (λ n. n < CLOCK_LIMIT) (sym (ap greatest_clock (c.ready_post.ensures.turn c.args.caller.now))) c.requires.clock

pub returns-clause-performed : goal.returns-clause-performed
returns-clause-performed c =
    let call = call_again c.in-Some.call in
    let caller = c.args.caller.now in
    let ready = c.in_ok-ready.ready in
    let after = c.post_prepared in
    let outstanding = sym (c.in-Some.ensures.value ∙ ap (λ (k : Calling). k.outstanding) c.client.ensures) in
    let message = c.in_ok-ready.ensures.message
    ∙ ap (λ b. next_message (Tag.Request call.number call.back) b caller) c.in_ok-body.ensures.copy in
    post-done Command.Retry (next_message (Tag.Request call.number call.back) call.body caller) ready.message call.port ready.port c.args.tables.now
    c.ready_post.new.tables caller caller (turn after.new.tables after.new.caller) after.result
    (ap (retry_act caller) outstanding) c.in_ok-ready.ensures.port message c.ready_post.ensures.turn (same-call call.port call.back call.body caller call outstanding)
    after.ensures.turn after.ensures.reply
