use Rattle.chorus_place.specs.PlaceTables.Tables.{state, turn}
use Rattle.chorus_place.proofs.PlaceTurns.WithGroups.GroupTurns.{carries, carried}
use Rattle.chorus_place.proofs.turns.with_groups.group_turns.carry_out.Goals as goal

pub go_all-requires : goal.go_all-requires
go_all-requires c =
    record {
      ready = carries c.args.id c.args.group c.args.home c.args.chosen.choice c.args.chosen.copies.items c.args.chosen.courses.items c.args.tables.now c.args.caller.now
          (turn c.choose.new.self c.choose.new.caller) c.choose.new.self.journal.spare c.choose.new.self.room c.requires.ready c.requires.clock c.choose.ensures.turn
          c.choose.ensures.one.spare c.choose.ensures.room;
    }

pub returns-in-Members-clause-turn : goal.returns-in-Members-clause-turn
returns-in-Members-clause-turn c =
    carried c.args.id c.args.group c.args.home c.args.chosen.choice c.in-Members.members c.args.chosen.copies.items c.args.chosen.courses.items (state c.args.tables.now)
    (turn c.args.tables.now c.args.caller.now) (turn c.choose.new.self c.choose.new.caller) _ c.requires.ready.chosen c.in-Members.is c.requires.ready.courses c.choose.ensures.turn
    c.go_all.ensures.turn
