use Rattle.std.proofs.Common.{◌≡◌, ◌+◌, ◌-◌, ◌≤◌}
use Rattle.law_network.specs.Network.{from_each, numbers, place_numbers}
use Rattle.chorus_net.specs.Drains.{Goes, puts_forward}
use Rattle.chorus_net.specs.Room.{UsesRoom}
use Rattle.chorus_net.specs.Sites.{net}
use Rattle.chorus_net.proofs.sites.Sites.round.Given as goal

abbrev pub invariant-loop-from : goal.invariant-loop-from
invariant-loop-from l = record {
  low : 1 ≤ l.from;
  high : l.from ≤ l.count + 1;
  goes : Goes (from_each 0 (numbers (l.from - 1) 1) (place_numbers l.initial.self.layout)) (net l.initial.self) (net l.self) l.served;
  room : UsesRoom (puts_forward (from_each 0 (numbers (l.from - 1) 1) (place_numbers l.initial.self.layout)) (net l.initial.self)) l.initial.self.places l.self.places;
  layout : l.self.layout ≡ l.initial.self.layout;
  mark : l.self.mark ≡ l.initial.self.mark;
}

abbrev pub decreases-loop-from : goal.decreases-loop-from
decreases-loop-from l = (l.count + 1) - l.from
