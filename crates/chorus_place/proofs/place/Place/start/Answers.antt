use Rattle.std.proofs.Common.{subst, sym}
use Rattle.chorus_place.specs.Calls.{IsAtRest}
use Rattle.chorus_ui.specs.Layout.{places}
use Rattle.chorus_place.proofs.Bounded.{starts-at-rest}
use Rattle.chorus_place.proofs.place.Place.start.Goals as goal

pub invariant_of-result : goal.invariant_of-result
invariant_of-result c =
    let made = c.in_ok-tables.ensures in
    subst IsAtRest (sym c.in_ok-tables-2.ensures.ok)
    (starts-at-rest c.args.layout c.args.number (places c.args.layout) c.in_ok-tables.tables made.layout c.requires made.state made.puts made.out)
