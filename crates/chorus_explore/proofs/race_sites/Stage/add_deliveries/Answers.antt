use Rattle.std.proofs.Common.{◌+◌, ◌++◌, reverse, ◌∙◌, ap}
use Rattle.law_explore.specs.Races.{links_to}
use Rattle.law_network.specs.Network.{place_numbers}
use Rattle.chorus_explore.specs.Stages.{coming, moves_of}
use Rattle.chorus_explore.proofs.Moving.{links-more}
use Rattle.chorus_explore.proofs.race_sites.Stage.add_deliveries.Goals as goal

pub loop-index-preserved : goal.loop-index-preserved
loop-index-preserved c =
    let scene = c.args.scenario.now in
    let l = c.loop-index in
    let inv = l.invariant in (
      c.add_links.ensures.reached,
      c.add_links.ensures.moves.0 ∙ inv.1,
      c.add_links.ensures.moves.1 ∙ inv.2,
      links-more scene (moves_of c.args.self.now) l.index (place_numbers scene.layout) c.args.moves.now.items l.moves.items _
          (c.in_ok-add_links.ensures.items ∙ ap (λ v. l.moves.items ++ coming scene (reverse v.items) (links_to (l.index + 1) (place_numbers scene.layout))) inv.1)
          inv.3,
    )
