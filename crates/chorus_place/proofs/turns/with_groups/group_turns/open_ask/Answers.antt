use Rattle.std.proofs.Common.{refl, subst, sym, ◌∙◌}
use Rattle.chorus_place.specs.PlaceTables.Tables.{turn}
use Rattle.chorus_place.specs.PlaceTurns.WithGroups.GroupTurns.{IsPrepared}
use Rattle.chorus_place.proofs.PlaceTurns.WithGroups.GroupTurns.{answered-ask, one-group}
use Rattle.chorus_place.proofs.turns.with_groups.group_turns.open_ask.Goals as goal

pub carry_out-requires-clause-ready : goal.carry_out-requires-clause-ready
carry_out-requires-clause-ready c =
    let ready = c.requires.ready in
    let group = one-group c.args.dest.now ready.group c.in-Some.group ready.asked (sym c.group.ensures ∙ c.in-Some.is) in
    subst (λ g. IsPrepared g c.args.from c.args.chosen 1 c.args.tables.now) group ready.prepared

pub returns-clause-turn : goal.returns-clause-turn
returns-clause-turn c =
    let now = turn c.args.tables.now c.args.caller.now in
    answered-ask c.args.message.now c.args.dest.now c.in-Some.group c.args.from c.args.chosen.copies.items now now _ (sym c.group.ensures ∙ c.in-Some.is) refl c.requires.ready.those
    c.carry_out.ensures.turn
