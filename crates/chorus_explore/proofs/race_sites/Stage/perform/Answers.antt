use Rattle.std.proofs.Common.{◌+◌, refl, ◌∙◌, ap, subst}
use Rattle.chorus_ui.specs.Layout.{IsLayout}
use Rattle.law_network.specs.Network.{Act, NetState}
use Rattle.law_network.specs.Schedules.{may_happen}
use Rattle.chorus_explore.specs.Stages.{moves_of}
use Rattle.chorus_explore.proofs.Happening.{next-happens}
use Rattle.chorus_explore.proofs.Moving.{layout-at}
use Rattle.chorus_explore.proofs.race_sites.Stage.perform.Goals as goal

pub perform_next-requires-clause-may : goal.perform_next-requires-clause-may
perform_next-requires-clause-may c =
    let scene = c.args.scenario.now in
    let s = c.args.self.now in
    let d = c.next-command.result.now in
    ap (λ (n : NetState). may_happen (Act (c.args.index + 1) c.next-command.result.now) n) c.requires.reached.at.net
    ∙ next-happens scene (subst IsLayout (layout-at scene s c.requires.reached) c.layout-sites.ensures.shape) c.layout-scene.ensures.keeps (moves_of s) c.requires.reached.history c.args.index (c.args.index + 1) d refl c.next-command.ensures
