use Rattle.std.proofs.Common.{arith}
use Rattle.chorus_place.specs.PlaceTables.Tables.{turn}
use Rattle.chorus_place.proofs.PlaceTurns.OfPackets.Openable.{may-open}
use Rattle.chorus_place.proofs.turns.of_packets.opening.open.Goals as goal

pub open_cargo-requires-clause-may : goal.open_cargo-requires-clause-may
open_cargo-requires-clause-may c =
    let heard = c.requires.heard in
    let worn = c.requires.clock in
    may-open c.args.packet (turn c.args.tables.now c.args.caller.now) c.requires.lawful (omega (arith, heard, worn)) heard
