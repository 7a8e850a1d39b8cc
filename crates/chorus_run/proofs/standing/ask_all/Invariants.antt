use Rattle.std.proofs.Common.{◌≡◌, reverse}
use Rattle.std.specs.List.{flat_map}
use Rattle.chorus_merge.specs.Steps.{lent}
use Rattle.law_network.specs.Network.{numbers}
use Rattle.chorus_report.specs.Awaiting.{left_in}
use Rattle.chorus_run.specs.Standing.{AreAskedBelow, done_in}
use Rattle.chorus_run.proofs.standing.ask_all.Given as goal

-- the scripts before this one were asked, and those of them that are stuck are told
abbrev pub invariant-loop-index : goal.invariant-loop-index
invariant-loop-index l =
    AreAskedBelow l.scenario l.ports (lent l.entries) l.index × (l.stuck.items ≡ flat_map (left_in l.scenario (done_in l.scenario (reverse (lent l.entries)))) (numbers l.index 1))
