use Rattle.std.proofs.Common.{◌+◌, ◌++◌, ◌∷◌, [], reverse, sym, ◌∙◌, ap}
use Rattle.std.proofs.lemmas.List.{append-nil}
use Rattle.chorus_ui.specs.declared.layout.Layout.{Layout}
use Rattle.chorus_ui.specs.Layout.{has_place}
use Rattle.law_network.specs.Network.{place_numbers}
use Rattle.law_explore.specs.declared.moves.Move.TheVariants.{Carry}
use Rattle.chorus_explore.specs.Stages.{coming, moves_of}
use Rattle.chorus_explore.proofs.Moving.{idle-comes, idle-links, layout-at, link-more}
use Rattle.chorus_explore.proofs.race_sites.Stage.add_links.Goals as goal

pub loop-index-preserved : goal.loop-index-preserved
loop-index-preserved c =
    let scene = c.args.scenario.now in
    let l = c.loop-index in
    let inv = l.invariant in (
      c.add_link.ensures.reached,
      c.add_link.ensures.moves.0 ∙ inv.1,
      c.add_link.ensures.moves.1 ∙ inv.2,
      link-more scene (moves_of c.args.self.now) c.args.from l.index c.args.moves.now.items l.moves.items _
          (c.in_ok-add_link.ensures.items ∙ ap (λ v. l.moves.items ++ coming scene (reverse v.items) (Carry c.args.from (l.index + 1) ∷ [])) inv.1)
          inv.3,
    )

pub is_idle-requires : goal.is_idle-requires
is_idle-requires c = ap (λ (l : Layout). has_place l c.args.from) (layout-at c.args.scenario.now c.args.self.now c.requires.reached) ∙ c.requires.from

pub returns-then-is_idle-clause-items : goal.returns-then-is_idle-clause-items
returns-then-is_idle-clause-items c =
    let scene = c.args.scenario.now in
    let idle = c.is_idle.ensures.idle c.if-is_idle.true in
    let none = idle-links scene (moves_of c.args.self.now) c.args.from (place_numbers scene.layout)
    (λ b. idle-comes scene c.args.self.now c.requires.reached c.args.from b (λ to has. idle to (ap (λ (l : Layout). has_place l to) (layout-at scene c.args.self.now c.requires.reached) ∙ has))) in
    sym (append-nil c.args.moves.now.items) ∙ ap (λ xs. c.args.moves.now.items ++ xs) (sym none)
