use Rattle.std.proofs.Common.{ap, ◌∙◌, arith}
use Rattle.law_machine.specs.Doing.{direct}
use Rattle.law_machine.specs.Trying.{go}
use Rattle.chorus_place.specs.PlaceTables.Tables.{turn}
use Rattle.chorus_place.proofs.PlaceTurns.Posting.{posted-length, posted-clock, posted-leaving}
use Rattle.chorus_place.proofs.turns.messages.post_behind.Goals as goal

pub go-requires-clause-again : goal.go-requires-clause-again
go-requires-clause-again c =
    λ _. posted-leaving c.args.port c.args.message (turn c.args.tables.now c.args.caller.now) _ c.args.again c.args.wait c.post.ensures.turn c.requires.message.copy c.requires.ready.leaving

pub go-requires-clause-may : goal.go-requires-clause-may
go-requires-clause-may c =
    let t = turn c.args.tables.now c.args.caller.now in
    let len = posted-length c.args.port c.args.message t _ c.post.ensures.turn in
    let clock = posted-clock c.args.port c.args.message t _ c.post.ensures.turn in
    let reports = c.post.ensures.reports in
    let left = c.post.ensures.one.spare in
    let same = c.post.ensures.room in
    let few = c.requires.ready.few in
    let entries = c.requires.ready.spare in
    let packets = c.requires.ready.room in
    let worn = c.requires.clock in
    record {
      kind = c.requires.message.kind;
      spare = omega (arith, len, entries, left);
      room = omega (arith, reports, same, packets);
      clock = omega (arith, len, clock, few, worn);
    }

pub returns-clause-turn : goal.returns-clause-turn
returns-clause-turn c = c.go.ensures.turn ∙ ap (go (direct c.args.port)) c.post.ensures.turn
