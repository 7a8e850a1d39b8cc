use Rattle.std.proofs.Common.{◌≡◌, ◌+◌, ◌-◌, ◌≤◌, length}
use Rattle.chorus_ui.specs.Layout.{places}
use Rattle.chorus_net.proofs.Renewing.{AreTaken}
use Rattle.chorus_net.proofs.restarting.restart_places.Given as goal

abbrev pub invariant-loop-number : goal.invariant-loop-number
invariant-loop-number l = record {
  taken : AreTaken l.layout l.fn.mark (l.number - 1) l.fn.used.items l.places.items l.closed;
  all : length l.places.items ≡ places l.layout;
  least : 1 ≤ l.number;
  most : l.number ≤ l.count + 1;
}

abbrev pub decreases-loop-number : goal.decreases-loop-number
decreases-loop-number l = (l.count + 1) - l.number
