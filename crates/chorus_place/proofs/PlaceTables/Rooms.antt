-- Room that is kept over one step after the other.
use Rattle.std.proofs.Common.{◌+◌, ◌≤◌, arith}
use Rattle.chorus_place.specs.PlaceTables.Tables.{Tables}
use Rattle.chorus_place.specs.PlaceTables.Room.{KeepsRoom}

-- one after the other
pub kept-then : {a b c : Tables} → KeepsRoom a b → KeepsRoom b c → KeepsRoom a c
kept-then h k =
    let e1 = h.entries in
    let e2 = k.entries in
    let p1 = h.packets in
    let p2 = k.packets in
    let g1 = h.grows in
    let g2 = k.grows in
    record { entries = omega (arith, e1, e2); packets = omega (arith, p1, p2); grows = omega (arith, g1, g2) }
