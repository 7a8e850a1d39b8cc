use Rattle.std.proofs.Common.{◌≡◌, ◌+◌, ◌-◌, ◌≤◌}
use Rattle.law_network.specs.Network.{from_one, numbers}
use Rattle.chorus_net.specs.Drains.{Goes, puts_forward}
use Rattle.chorus_net.specs.Room.{UsesRoom}
use Rattle.chorus_net.specs.Sites.{net}
use Rattle.chorus_net.proofs.sites.Sites.deliver_from.Given as goal

abbrev pub invariant-loop-to : goal.invariant-loop-to
invariant-loop-to l = record {
  low : 1 ≤ l.to;
  high : l.to ≤ l.count + 1;
  goes : Goes (from_one 0 l.from (numbers (l.to - 1) 1)) (net l.initial.self) (net l.self) l.served;
  room : UsesRoom (puts_forward (from_one 0 l.from (numbers (l.to - 1) 1)) (net l.initial.self)) l.initial.self.places l.self.places;
  layout : l.self.layout ≡ l.initial.self.layout;
  mark : l.self.mark ≡ l.initial.self.mark;
}

abbrev pub decreases-loop-to : goal.decreases-loop-to
decreases-loop-to l = (l.count + 1) - l.to
