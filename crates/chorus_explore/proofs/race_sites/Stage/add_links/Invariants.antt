use Rattle.std.proofs.Common.{◌≡◌, ◌++◌}
use Rattle.law_explore.specs.Races.{links_to}
use Rattle.law_network.specs.Network.{numbers}
use Rattle.chorus_explore.specs.Stages.{IsReached, coming, moves_of}
use Rattle.chorus_explore.proofs.race_sites.Stage.add_links.Given as goal

-- the deliveries to the places passed are added
abbrev pub invariant-loop-index : goal.invariant-loop-index
invariant-loop-index l = IsReached l.scenario l.self × (l.self.moves ≡ l.initial.self.moves) × (l.self.asks ≡ l.initial.self.asks)
    × (l.moves.items ≡ l.initial.moves.items ++ coming l.scenario (moves_of l.initial.self) (links_to l.from (numbers l.index 1)))
