use Rattle.std.proofs.Common.{◌≡◌, slice_get}
use Rattle.chorus_net.specs.Sites.{net}
use Rattle.chorus_replay.specs.Order.{after_setup}
use Rattle.chorus_replay.specs.Performing.{AreLeft}
use Rattle.chorus_replay.specs.Load.{load_layout, load_order, load_setup}
use Rattle.chorus_replay.proofs.LoadTasks.{seats_left}
use Rattle.chorus_replay.proofs.loading.enter.Given as goal

abbrev pub invariant-loop-index : goal.invariant-loop-index
invariant-loop-index l =
    AreLeft load_layout (load_order l.first l.commands) (seats_left l.first l.commands l.index) (net l.sites)
    × (slice_get (net l.sites).callers 0 ≡ slice_get (after_setup load_layout load_setup).callers 0)
    × (l.sites.mark ≡ l.initial.sites.mark)
