use Rattle.std.proofs.Common.{◌≡◌, drop}
use Rattle.chorus_replay.specs.Performing.{IsAt}
use Rattle.chorus_replay.specs.Waiting.{InSchedule}
use Rattle.chorus_net.specs.Sites.{net}
use Rattle.chorus_replay.proofs.following.follow.Given as goal

abbrev pub invariant-loop-index : goal.invariant-loop-index
invariant-loop-index l =
    IsAt l.scenario (InSchedule (drop l.index l.scenario.schedule)) l.done.items (net l.sites)
    × (l.sites.mark ≡ l.initial.sites.mark)
