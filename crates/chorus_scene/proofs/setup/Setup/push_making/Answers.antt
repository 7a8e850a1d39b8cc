use Rattle.std.proofs.Common.{◌≤◌, refl, sym, ap, subst, ◌∙◌, ◌∷◌, [], ◌++◌}
use Rattle.chorus_ui.specs.declared.ui.Ui.{Ui}
use Rattle.chorus_scene.specs.Reader.{count_at, made_by, most_number}
use Rattle.chorus_scene.proofs.Tables.{making_tables}
use Rattle.chorus_scene.proofs.setup.Setup.push_making.Goals as goal

pub returns-clause-tables : goal.returns-clause-tables
returns-clause-tables c =
    let r = c.requires in
    let u = c.args.ui in
    let s = c.args.self.now in
    let at = c.count_at-at.ensures.value ∙ ap (λ k. count_at c.args.layout k c.site.result c.args.number) c.kind.ensures ∙ ap (λ n. count_at c.args.layout u.kind n c.args.number) c.site.ensures.value in
    making_tables c.args.layout s _ c.count_at-at.ensures.shape r.tables c.args.line c.in_ok-push.ensures.items u.kind u.site c.args.number r.making.kind c.site.ensures.name.site_from_one r.site r.making.made r.making.joined
    c.count_at-at.result at (ap (λ n. s.names.items ++ n ∷ []) (sym r.given) ∙ sym c.in_ok-push-2.ensures.items) (r.making.said (made_by c.args.layout s)) refl refl (subst (λ (n : Ui). n.number ≤ most_number u.kind) r.given r.making.room) c.count_at-at.ensures.small
