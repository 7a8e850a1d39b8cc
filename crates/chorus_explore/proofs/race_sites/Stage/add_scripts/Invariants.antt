use Rattle.std.proofs.Common.{◌≡◌, ◌++◌, map}
use Rattle.law_explore.specs.declared.moves.Move.TheVariants.{Go}
use Rattle.law_network.specs.Network.{numbers}
use Rattle.chorus_explore.specs.Stages.{coming, moves_of}
use Rattle.chorus_explore.proofs.race_sites.Stage.add_scripts.Given as goal

-- those of the scripts passed are added
abbrev pub invariant-loop-index : goal.invariant-loop-index
invariant-loop-index l = l.moves.items ≡ l.initial.moves.items ++ coming l.scenario (moves_of l.self) (map Go (numbers l.index 0))
