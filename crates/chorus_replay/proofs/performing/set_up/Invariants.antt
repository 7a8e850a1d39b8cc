use Rattle.std.proofs.Common.{◌≡◌, take, map, reverse, ◌∷◌}
use Rattle.law_network.specs.Network.{Act, schedule}
use Rattle.law_network.specs.Calls.{starting}
use Rattle.chorus_report.specs.Setup.{setup_command}
use Rattle.chorus_replay.specs.Performing.{IsBefore}
use Rattle.chorus_net.specs.Sites.{net}
use Rattle.chorus_replay.proofs.Loops.{setup_from}
use Rattle.chorus_replay.proofs.performing.set_up.Given as goal

abbrev pub invariant-loop-line : goal.invariant-loop-line
invariant-loop-line l =
    IsBefore l.scenario (setup_from l.scenario l.line-index) (net l.sites)
    × (net l.sites ≡ schedule l.scenario.layout (reverse (starting ∷ map (Act 0) (map setup_command (take l.line-index l.scenario.setup)))))
    × (l.sites.mark ≡ l.initial.sites.mark)
