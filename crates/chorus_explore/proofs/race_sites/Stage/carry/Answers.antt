use Rattle.std.proofs.Common.{ap, ◌∙◌}
use Rattle.std.proofs.lemmas.Result.{err_from_is_err_and}
use Rattle.chorus_ui.specs.Layout.{has_place}
use Rattle.chorus_ui.specs.declared.layout.Layout.{Layout}
use Rattle.law_explore.specs.declared.moves.Move.TheVariants.{Carry}
use Rattle.law_network.specs.Network.{Deliver}
use Rattle.chorus_explore.specs.Stages.{moves_of}
use Rattle.chorus_explore.proofs.Entering.{exit, wears-behind}
use Rattle.chorus_explore.proofs.Moving.{layout-at, linked}
use Rattle.chorus_explore.proofs.race_sites.Stage.carry.Goals as goal

pub deliver-requires : goal.deliver-requires
deliver-requires c =
    let scene = c.args.scenario.now in
    let s = c.args.self.now in
    let at = layout-at scene s c.requires.reached in
    let link = linked scene c.args.from c.args.to (moves_of s) c.requires.may in
    record {
      link = record {
        from = ap (λ (l : Layout). has_place l c.args.from) at ∙ link.from;
        to = ap (λ (l : Layout). has_place l c.args.to) at ∙ link.to;
        apart = link.apart;
      };
    }

pub returns-in_err-deliver-clause-worn : goal.returns-in_err-deliver-clause-worn
returns-in_err-deliver-clause-worn c clock is =
    let scene = c.args.scenario.now in
    let s = c.args.self.now in
    let p = err_from_is_err_and c.from_residual.result c.from_residual.ensures.1 in
    let worn = (c.deliver.ensures.worn clock).0 (exit c.from_residual.result c.deliver.result _ p.0 _ p.1 p.2 c.in_err-deliver.was is) in
    wears-behind scene s (Carry c.args.from c.args.to) (Deliver 0 c.args.from c.args.to) clock c.requires.reached c.requires.may
    (linked scene c.args.from c.args.to (moves_of s) c.requires.may).event worn.1 worn.0
