use Rattle.std.proofs.Common.{◌≡◌, ◌+◌, ◌-◌, ◌≤◌, length}
use Rattle.std.specs.Vec.{vec_capacity}
use Rattle.chorus_ui.specs.Layout.{IsLayout}
use Rattle.chorus_net.specs.Starting.{HaveStarted}
use Rattle.chorus_net.proofs.starting.start_places.Given as goal

abbrev pub invariant-loop-number : goal.invariant-loop-number
invariant-loop-number l = record {
  started : HaveStarted l.layout 1 l.places.items;
  all : length l.places.items + 1 ≡ l.number;
  most : l.number ≤ l.count + 1;
  room : l.count ≤ vec_capacity l.places;
  shape : 2 ≤ l.number → IsLayout l.layout;
}

abbrev pub decreases-loop-number : goal.decreases-loop-number
decreases-loop-number l = (l.count + 1) - l.number
