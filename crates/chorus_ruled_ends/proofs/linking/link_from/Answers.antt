use Rattle.std.proofs.Common.{arith}
use Rattle.chorus_ruled_ends.proofs.Rows.{below-more, below-all}
use Rattle.chorus_ruled_ends.proofs.linking.link_from.Goals as goal

pub loop-to-preserved : goal.loop-to-preserved
loop-to-preserved c = record {
  slots = c.link_one.ensures.slots;
  first = omega arith;
  below = below-more c.args.from c.loop-to.to c.args.all.now.items c.loop-to.all.items c.link_one.new.all.items c.requires.from.0 c.loop-to.invariant.below c.in_ok-link_one.ensures.links;
}

pub returns-clause-links : goal.returns-clause-links
returns-clause-links c = below-all c.args.from c.loop-to.to c.args.places c.args.all.now.items c.loop-to.all.items (omega arith) c.loop-to.invariant.below
