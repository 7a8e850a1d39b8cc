use Rattle.std.proofs.Common.{◌≡◌, ◌+◌, ◌-◌}
use Rattle.chorus_net.specs.Sites.{net}
use Rattle.chorus_replay.specs.Performing.{AreLeft}
use Rattle.chorus_replay.specs.Load.{load_layout, load_order, to_draw}
use Rattle.chorus_replay.proofs.loading.take_turns.Given as goal

abbrev pub invariant-loop-index : goal.invariant-loop-index
invariant-loop-index l =
    AreLeft load_layout (load_order l.first l.commands) (to_draw (l.commands - l.index) (l.index + 1) l.state) (net l.sites)
    × (l.sites.mark ≡ l.initial.sites.mark)
