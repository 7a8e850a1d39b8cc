use Rattle.std.proofs.Common.{sym, ◌∙◌}
use Rattle.chorus_place.proofs.PlaceTurns.WithGroups.GroupTurns.{ask-ready}
use Rattle.chorus_place.proofs.turns.with_groups.group_turns.ready_ask.Goals as goal

pub returns-clause-ready : goal.returns-clause-ready
returns-clause-ready c =
    ask-ready c.prepare.result c.args.message.now c.args.dest.now c.in-Some.group c.args.from c.args.tables.now c.prepare.new.tables (sym c.group.ensures ∙ c.in-Some.is)
    c.prepare.ensures.turn c.prepare.ensures.ready c.prepare.ensures.copies
