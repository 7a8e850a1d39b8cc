use Rattle.std.proofs.Common.{◌++◌, length, map, ◌∙◌, ap}
use Rattle.law_explore.specs.declared.moves.Move.TheVariants.{Go}
use Rattle.law_network.specs.Network.{numbers}
use Rattle.chorus_explore.specs.Stages.{coming, moves_of}
use Rattle.chorus_explore.proofs.Moving.{all-come}
use Rattle.chorus_explore.proofs.race_sites.Stage.next_moves.Goals as goal

pub returns-clause-items : goal.returns-clause-items
returns-clause-items c =
    let scene = c.args.scenario.now in
    all-come scene c.args.self.now c.requires _ _
    (c.in_ok-add_scripts.ensures ∙ ap (λ xs. xs ++ coming scene (moves_of c.args.self.now) (map Go (numbers (length scene.scripts) 0))) c.new-moves.ensures.items)
    c.in_ok-add_deliveries.ensures.items
