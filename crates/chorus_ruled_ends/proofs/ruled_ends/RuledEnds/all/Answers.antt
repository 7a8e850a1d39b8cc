use Rattle.std.proofs.Common.{arith}
use Rattle.chorus_ui.specs.Layout.{places}
use Rattle.chorus_ruled_ends.proofs.Rows.{rows-more, rows-all}
use Rattle.chorus_ruled_ends.proofs.ruled_ends.RuledEnds.all.Goals as goal

pub loop-from-preserved : goal.loop-from-preserved
loop-from-preserved c = record {
  few = c.loop-from.invariant.few;
  slots = c.link_from.ensures.slots;
  first = omega arith;
  below = rows-more c.loop-from.from c.places-places.result c.loop-from.all.items c.link_from.new.all.items c.loop-from.invariant.below c.in_ok-link_from.ensures.links;
}

pub returns : goal.returns
returns c =
    rows-all c.loop-from.from c.places-places.result (places c.args.layout) c.loop-from.all.items c.places-places.ensures.value (omega arith) c.loop-from.invariant.slots.count c.loop-from.invariant.below
