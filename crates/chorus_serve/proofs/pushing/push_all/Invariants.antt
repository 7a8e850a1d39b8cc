use Rattle.std.proofs.Common.{ℕ, ◌≡◌, ◌+◌, ◌-◌, ◌<◌, ◌≤◌}
use Rattle.chorus_ui.specs.declared.limits.TheConstants.{PLACES_LIMIT}
use Rattle.chorus_ui.specs.Layout.{places}
use Rattle.chorus_serve.specs.Flows.{IsOther, Pushes, KeepsAtFull}
use Rattle.chorus_serve.proofs.pushing.push_all.Given as goal

abbrev pub invariant-loop-to : goal.invariant-loop-to
invariant-loop-to g l = record {
  pushes : Pushes l.fn.place l.place (g.E.Ends.links l.fn.ends) (g.E.Ends.links l.ends);
  count : l.places ≡ places l.fn.place.layout;
  few : l.places ≤ PLACES_LIMIT;
  first : 1 ≤ l.to;
  full : (p : ℕ) → IsOther l.fn.place.layout l.fn.place.number p → p < l.to → KeepsAtFull p l.place.out.lists (g.E.Ends.links l.fn.ends) (g.E.Ends.links l.ends);
}

abbrev pub decreases-loop-to : goal.decreases-loop-to
decreases-loop-to g l = l.places + 1 - l.to
