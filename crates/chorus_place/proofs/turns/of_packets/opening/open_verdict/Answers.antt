use Rattle.std.proofs.Common.{ap, ◌∙◌, arith}
use Rattle.law_machine.specs.Trying.{go}
use Rattle.chorus_place.specs.PlaceTables.Tables.{turn}
use Rattle.chorus_place.proofs.PlaceTurns.OfPackets.Verdicts.{tell-length, tell-clock, tell-leaving}
use Rattle.chorus_place.proofs.turns.of_packets.opening.open_verdict.Goals as goal

pub tell-requires-clause-entry : goal.tell-requires-clause-entry
tell-requires-clause-entry c =
    let ready = c.requires.ready.spare in
    let clock = c.requires.clock in
    record { spare = omega (arith, ready); clock = omega (arith, clock) }

pub tell-requires-clause-room : goal.tell-requires-clause-room
tell-requires-clause-room c =
    let room = c.requires.ready.room in
    omega (arith, room)

pub go-requires-clause-again : goal.go-requires-clause-again
go-requires-clause-again c =
    λ _. tell-leaving c.args.key.now c.args.id c.args.answer (turn c.args.tables.now c.args.caller.now) _ c.args.again c.tell.ensures.turn c.requires.ready.leaves

pub go-requires-clause-may : goal.go-requires-clause-may
go-requires-clause-may c =
    let t = turn c.args.tables.now c.args.caller.now in
    let len = tell-length c.args.key.now c.args.id c.args.answer t _ c.tell.ensures.turn in
    let clock = tell-clock c.args.key.now c.args.id c.args.answer t _ c.tell.ensures.turn in
    let spare = c.requires.ready.spare in
    let room = c.requires.ready.room in
    let few = c.requires.ready.few in
    let entry = c.tell.ensures.one.spare in
    let packet = c.tell.ensures.room in
    let worn = c.requires.clock in
    record {
      kind = c.requires.may.kind;
      spare = omega (arith, len, spare, entry);
      room = omega (arith, room, packet);
      clock = omega (arith, len, clock, few, worn);
    }

pub returns-clause-turn : goal.returns-clause-turn
returns-clause-turn c = c.go.ensures.turn ∙ ap (go c.args.key.now) c.tell.ensures.turn
