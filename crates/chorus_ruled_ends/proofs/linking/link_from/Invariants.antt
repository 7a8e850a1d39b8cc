use Rattle.std.proofs.Common.{◌-◌, ◌+◌, ◌≤◌}
use Rattle.chorus_ruled_ends.specs.Linked.{HaveSlots, LinksBelow}
use Rattle.chorus_ruled_ends.proofs.linking.link_from.Given as goal

abbrev pub invariant-loop-to : goal.invariant-loop-to
invariant-loop-to l = record {
  slots : HaveSlots (l.places + 1) l.places l.all.items;
  first : 1 ≤ l.to;
  below : LinksBelow l.from l.to l.fn.all.items l.all.items;
}

abbrev pub decreases-loop-to : goal.decreases-loop-to
decreases-loop-to l = l.places + 1 - l.to
