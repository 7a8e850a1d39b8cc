use Rattle.std.proofs.Common.{sym, ◌∙◌}
use Rattle.law_machine.specs.Doing.{choosing_place}
use Rattle.chorus_place.specs.PlaceTables.Tables.{state, turn}
use Rattle.chorus_place.proofs.PlaceTables.Going.{eq-yes}
use Rattle.chorus_place.proofs.PlaceTurns.WithGroups.GroupTurns.{sent-here}
use Rattle.chorus_place.proofs.turns.with_groups.group_turns.post_to_group.Goals as goal

pub returns-then-place-number-clause-performed : goal.returns-then-place-number-clause-performed
returns-then-place-number-clause-performed c =
    let s = state c.args.tables.now in
    sent-here c.post_here.result c.args.dest c.in-Some.group c.args.body c.next_message-message.result (turn c.args.tables.now c.args.caller.now)
    (turn c.post_here.new.tables c.post_here.new.caller) (sym c.group.ensures ∙ c.in-Some.is)
    (eq-yes (choosing_place s c.in-Some.group) c.number.result s.number (sym c.choosing_place-place.ensures.value ∙ c.if-place-number.true) c.number.ensures.value)
    c.next_message-message.ensures c.post_here.ensures.ok c.post_here.ensures.reply
