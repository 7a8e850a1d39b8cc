use Rattle.std.proofs.Common.{subst}
use Rattle.chorus_ui.specs.declared.kind.Kind.TheVariants as kinds
use Rattle.chorus_calls.specs.Callers.{Seated, new_caller}
use Rattle.chorus_place.specs.PlaceTables.Tables.{turn}
use Rattle.chorus_place.specs.PlaceTurns.OfPackets.Opening.{MayHear}
use Rattle.chorus_place.proofs.PlaceTurns.OfPackets.Openable.{may-hear}
use Rattle.chorus_place.proofs.turns.of_packets.readiness.make_ready.Goals as goal

-- what a lawful packet says does not ask who works it off
someone : Seated
someone = new_caller 0 (record { site = 0; kind = kinds.Actor; number = 0 }) 0

pub ready_verdict-requires : goal.ready_verdict-requires
ready_verdict-requires c =
    let t = turn c.args.tables.now someone in
    let packet = c.args.packet.now in
    let may = subst (λ x. MayHear packet.from x t) c.in-Verdict.is (may-hear packet t c.requires.lawful) in
    record { kind = may.kind; teaches = may.teaches; first = may.first }

pub ready_ask-requires-clause-group : goal.ready_ask-requires-clause-group
ready_ask-requires-clause-group c =
    let t = turn c.args.tables.now someone in
    let packet = c.args.packet.now in
    (subst (λ x. MayHear packet.from x t) c.in-Ask.is (may-hear packet t c.requires.lawful)).group

pub ready_ask-requires-clause-sound : goal.ready_ask-requires-clause-sound
ready_ask-requires-clause-sound c =
    let t = turn c.args.tables.now someone in
    let packet = c.args.packet.now in
    (subst (λ x. MayHear packet.from x t) c.in-Ask.is (may-hear packet t c.requires.lawful)).sound
