use Rattle.std.proofs.Common.{◌≡◌, take}
use Rattle.chorus_net.specs.Sites.{net}
use Rattle.chorus_replay.specs.Order.{after_setup}
use Rattle.chorus_replay.specs.Performing.{AreLeft}
use Rattle.chorus_replay.specs.Load.{load_layout, load_order, load_setup}
use Rattle.chorus_replay.proofs.LoadTasks.{setup_left}
use Rattle.chorus_replay.proofs.loading.set_up.Given as goal

abbrev pub invariant-loop-index : goal.invariant-loop-index
invariant-loop-index l =
    AreLeft load_layout (load_order l.first l.commands) (setup_left l.first l.commands l.index) (net l.sites)
    × (net l.sites ≡ after_setup load_layout (take l.index load_setup))
    × (l.sites.mark ≡ l.initial.sites.mark)
