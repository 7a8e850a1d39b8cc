use Rattle.std.proofs.Common.{◌<◌, length, sym, arith}
use Rattle.chorus_place.proofs.PlaceTables.Choosing.{kind-at}
use Rattle.chorus_place.proofs.turns.with_groups.courses.courses_for.Goals as goal

pub copy_free-requires : goal.copy_free-requires
copy_free-requires c =
    let len = c.len-len.ensures in
    let test = c.loop-at-test.true in
    let all = c.args.copies.now.ok.0 in
    let lt : c.loop-at.at < length c.args.copies.now.items = omega (arith, len, test, all) in
    record { kind = kind-at c.args.copies.now.items c.loop-at.at c.in-Some.copy.now c.requires.kinds lt (sym c.in-Some.ensures.lookup) }
