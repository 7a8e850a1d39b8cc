use Rattle.std.proofs.Common.{◌<◌, ◌+◌, ap, sym, subst, ◌∙◌}
use Rattle.chorus_ui.specs.declared.limits.TheConstants.{CLOCK_LIMIT}
use Rattle.chorus_entry.specs.declared.command.Command.TheVariants as Command
use Rattle.chorus_entry.specs.declared.tag.Tag.TheVariants as Tag
use Rattle.chorus_calls.specs.Clients.{Calling}
use Rattle.law_machine.specs.PlaceState.{greatest_clock}
use Rattle.law_machine.specs.Own.{next_message, call_act}
use Rattle.chorus_place.specs.PlaceTables.Tables.{turn}
use Rattle.chorus_place.proofs.PlaceTurns.Posting.{on_err}
use Rattle.chorus_place.proofs.PlaceTurns.CallTurns.{post-done}
use Rattle.chorus_place.proofs.turns.calls.begin_call.Goals as goal

pub returns-in_err-ready-clause-refused : goal.returns-in_err-ready-clause-refused
returns-in_err-ready-clause-refused c = on_err _ _ (c.ready_post.ensures.turn c.args.caller.now)

pub post_prepared-requires-clause-clock : goal.post_prepared-requires-clause-clock
post_prepared-requires-clause-clock c =
    subst (λ n. n < CLOCK_LIMIT) (sym (ap greatest_clock (c.ready_post.ensures.turn c.begin.new.caller ∙ ap (turn c.args.tables.now) c.begin.ensures))) c.requires.clock

pub returns-clause-performed : goal.returns-clause-performed
returns-clause-performed c =
    let port = c.args.port in
    let back = c.args.back in
    let body = c.args.body in
    let caller = c.args.caller.now in
    let ready = c.in_ok-ready.ready in
    let after = c.post_prepared in
    let given = c.given-number.ensures.value ∙ ap (λ (k : Calling). k.given) c.client.ensures in
    let message = c.in_ok-ready.ensures.message
    ∙ ap (λ n. next_message (Tag.Request (n + 1) back) c.in_ok-carried.carried caller) given
    ∙ ap (λ b. next_message (Tag.Request (caller.client.given + 1) back) b caller) c.in_ok-carried.ensures.copy in
    post-done (Command.Call port back body) (next_message (Tag.Request (caller.client.given + 1) back) body caller) ready.message port ready.port c.args.tables.now
    c.ready_post.new.tables caller c.begin.new.caller (turn after.new.tables after.new.caller) after.result
    (ap (call_act port back body caller) c.requires.free) c.in_ok-ready.ensures.port message c.ready_post.ensures.turn c.begin.ensures after.ensures.turn after.ensures.reply
