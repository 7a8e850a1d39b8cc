use Rattle.std.proofs.Common.{◌<◌, refl, ap, sym, subst}
use Rattle.chorus_ui.specs.declared.limits.TheConstants.{CLOCK_LIMIT}
use Rattle.chorus_entry.specs.declared.command.Command.TheVariants as Command
use Rattle.chorus_entry.specs.declared.dest.Dest.{Dest}
use Rattle.chorus_entry.specs.declared.tag.Tag.TheVariants as Tag
use Rattle.law_machine.specs.PlaceState.{greatest_clock}
use Rattle.law_machine.specs.Own.{next_message}
use Rattle.chorus_place.specs.PlaceTables.Tables.{turn}
use Rattle.chorus_place.proofs.PlaceTurns.Posting.{on_err}
use Rattle.chorus_place.proofs.PlaceTurns.CallTurns.{post-done}
use Rattle.chorus_place.proofs.turns.messages.send_to_port.Goals as goal

pub returns-in_err-ready-clause-refused : goal.returns-in_err-ready-clause-refused
returns-in_err-ready-clause-refused c = on_err _ _ (c.ready_post.ensures.turn c.args.caller.now)

pub post_prepared-requires-clause-clock : goal.post_prepared-requires-clause-clock
post_prepared-requires-clause-clock c =
    subst (λ n. n < CLOCK_LIMIT) (sym (ap greatest_clock (c.ready_post.ensures.turn c.args.caller.now))) c.requires.clock

pub returns-clause-performed : goal.returns-clause-performed
returns-clause-performed c =
    let body = c.args.body in
    let caller = c.args.caller.now in
    let ready = c.in_ok-ready.ready in
    let after = c.post_prepared in
    post-done (Command.Send (Dest.Port c.args.port) body) (next_message Tag.Plain body caller) ready.message c.args.port ready.port c.args.tables.now
    c.ready_post.new.tables caller caller (turn after.new.tables after.new.caller) after.result
    refl c.in_ok-ready.ensures.port c.in_ok-ready.ensures.message c.ready_post.ensures.turn refl after.ensures.turn after.ensures.reply
