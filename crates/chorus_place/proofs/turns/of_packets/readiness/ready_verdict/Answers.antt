use Rattle.std.proofs.Common.{ap, length, arith}
use Rattle.place_unsettled.specs.Queues.{queue}
use Rattle.chorus_place.specs.PlaceTables.Going.{reports}
use Rattle.chorus_place.proofs.PlaceTurns.OfPackets.Verdicts.{verdict-ready}
use Rattle.chorus_place.proofs.turns.of_packets.readiness.ready_verdict.Goals as goal

pub returns-clause-ready : goal.returns-clause-ready
returns-clause-ready c =
    let k = c.args.key.now in
    let p = c.args.tables.now in
    let now = c.make_room.new.self in
    let len = ap (λ w. length (queue w k).waits) c.make_room.ensures.same.waits in
    let one = ap (λ w. reports now.number (queue w k).waits) c.make_room.ensures.same.waits in
    let two = ap (λ n. reports n (queue p.waits k).waits) c.make_room.ensures.same.number in
    let counted = c.waiting_for-waits.ensures.len in
    let small = c.waiting_for-waits.ensures.small in
    let enough = c.most_reports-reports.ensures.enough in
    let entries = c.in_ok-make_room.ensures.spare in
    let packets = c.in_ok-make_room.ensures.room in
    verdict-ready c.copy_leaving.result k c.args.answer c.settled_by.result now c.settled_by.ensures.value c.copy_leaving.ensures (omega (arith, len, counted, small))
    (omega (arith, len, counted, entries)) (omega (arith, one, two, enough, packets))
