use Rattle.std.proofs.Common.{◌-◌, ◌+◌, ◌≤◌}
use Rattle.chorus_ui.specs.declared.limits.TheConstants.{PLACES_LIMIT}
use Rattle.chorus_ruled_ends.specs.Linked.{HaveSlots, AreLinkedBelow}
use Rattle.chorus_ruled_ends.proofs.ruled_ends.RuledEnds.all.Given as goal

abbrev pub invariant-loop-from : goal.invariant-loop-from
invariant-loop-from l = record {
  few : l.places ≤ PLACES_LIMIT;
  slots : HaveSlots (l.places + 1) l.places l.all.items;
  first : 1 ≤ l.from;
  below : AreLinkedBelow l.from l.places l.all.items;
}

abbrev pub decreases-loop-from : goal.decreases-loop-from
decreases-loop-from l = l.places + 1 - l.from
