use Rattle.std.proofs.Common.{◌≡◌, slice_get}
use Rattle.chorus_replay.specs.Order.{set_up}
use Rattle.chorus_replay.specs.Performing.{IsBefore}
use Rattle.chorus_net.specs.Sites.{net}
use Rattle.chorus_replay.proofs.Loops.{enter_from}
use Rattle.chorus_replay.proofs.performing.enter.Given as goal

abbrev pub invariant-loop-script : goal.invariant-loop-script
invariant-loop-script l =
    IsBefore l.scenario (enter_from l.scenario l.script-index) (net l.sites)
    × (slice_get (net l.sites).callers 0 ≡ slice_get (set_up l.scenario).callers 0)
    × (l.sites.mark ≡ l.initial.sites.mark)
