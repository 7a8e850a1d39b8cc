use Rattle.std.proofs.Common.{◌≡◌, ◌-◌, ◌≤◌, length, take}
use Rattle.chorus_net.specs.Room.{HaveRoom, KeepRoom}
use Rattle.chorus_net.specs.Sites.{net}
use Rattle.chorus_net.proofs.sites.Sites.reserve.Given as goal

abbrev pub invariant-loop-index : goal.invariant-loop-index
invariant-loop-index l = record {
  same : net l.self ≡ net l.initial.self;
  layout : l.self.layout ≡ l.initial.self.layout;
  mark : l.self.mark ≡ l.initial.self.mark;
  all : length l.self.places ≡ l.count;
  first : length l.initial.self.places ≡ l.count;
  most : l.index ≤ l.count;
  room : HaveRoom l.more (take l.index l.self.places);
  kept : KeepRoom l.initial.self.places l.self.places;
}

abbrev pub decreases-loop-index : goal.decreases-loop-index
decreases-loop-index l = l.count - l.index
