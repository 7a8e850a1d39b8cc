use Rattle.std.proofs.Common.{◌≡◌}
use Rattle.std.specs.List.{flat_map}
use Rattle.law_network.specs.Network.{numbers}
use Rattle.chorus_report.specs.Awaiting.{left_in}
use Rattle.chorus_replay.proofs.replaying.stuck_of.Given as goal

abbrev pub invariant-loop-index : goal.invariant-loop-index
invariant-loop-index l = l.stuck.items ≡ flat_map (left_in l.scenario l.done) (numbers l.index 1)
