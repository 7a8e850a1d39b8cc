use Rattle.std.proofs.Common.{◌+◌, ◌++◌, ◌∷◌, [], drop, sym, ◌∙◌, ap, append_assoc}
use Rattle.chorus_world.specs.Places.{copies}
use Rattle.explore_report.proofs.More.{drop-some}
use Rattle.chorus_explore.specs.AlikeSites.Journals.{ids_of}
use Rattle.chorus_explore.proofs.alike_sites.journals.push_each.Goals as goal

pub loop-index-preserved : goal.loop-index-preserved
loop-index-preserved c = λ g.
    let i = c.loop-index.index in
    let next = drop-some c.args.members.now c.loop-index.index c.loop-index-test.true in
    let rest = ids_of (copies c.args.id g (i + 1 + 1) (drop (i + 1) c.args.members.now)) in
    let ids = c.loop-index.ids.items in
    ap (λ xs. xs ++ rest) c.in_ok-push.ensures.items ∙ append_assoc ids (record c.args.id { copy = i + 1 } ∷ []) rest
    ∙ ap (λ qs. ids ++ ids_of (copies c.args.id g (i + 1) qs)) (sym next.1) ∙ c.loop-index.invariant g
