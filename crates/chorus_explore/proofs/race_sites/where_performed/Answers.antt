use Rattle.std.proofs.Common.{ℕ, ◌≡◌, ◌<◌, length, slice_get, Some, refl, sym, ◌∙◌, ap, ap₂, arith}
use Rattle.std.proofs.lemmas.Option.{slice_get_read}
use Rattle.chorus_ui.specs.declared.layout.Layout.{Layout}
use Rattle.chorus_ui.specs.declared.ui.Ui.{Ui}
use Rattle.chorus_ui.specs.Layout.{has_site}
use Rattle.chorus_entry.specs.Places.{place_for}
use Rattle.chorus_scene.specs.Scene.{Script}
use Rattle.chorus_explore.proofs.Keeping.{script-keeps}
use Rattle.chorus_explore.proofs.Moving.{some-same, within}
use Rattle.chorus_explore.proofs.race_sites.where_performed.Goals as goal

pub place_for-requires-clause-site : goal.place_for-requires-clause-site
place_for-requires-clause-site c =
    let scene = c.args.scenario.now in
    let r = c.requires in
    let lt : c.from.result < length c.scripts.result.now = (let b = within scene.scripts c.args.index r.script r.is_script in let n = ap length c.scripts.ensures in let e = c.from.ensures in omega (arith, b, n, e)) in
    let found : slice_get scene.scripts c.args.index ≡ Some c.index-scripts-from.result =
    sym (ap₂ (λ xs (n : ℕ). slice_get xs n) c.scripts.ensures c.from.ensures) ∙ slice_get_read _ _ _ _ refl lt c.index-scripts-from.is in
    ap₂ (λ (l : Layout) (a : Ui). has_site l a.site) c.layout.ensures.value c.actor.ensures ∙ (script-keeps scene c.layout.ensures.keeps c.args.index c.index-scripts-from.result found).site

pub place_for-requires-clause-conditions : goal.place_for-requires-clause-conditions
place_for-requires-clause-conditions c =
    let r = c.requires in
    (script-keeps c.args.scenario.now c.layout.ensures.keeps c.args.index r.script r.is_script).commands r.number c.args.command.now r.is_command

pub returns-clause-value : goal.returns-clause-value
returns-clause-value c = λ script at.
    let scene = c.args.scenario.now in
    let r = c.requires in
    let lt : c.from.result < length c.scripts.result.now = (let b = within scene.scripts c.args.index r.script r.is_script in let n = ap length c.scripts.ensures in let e = c.from.ensures in omega (arith, b, n, e)) in
    let found : slice_get scene.scripts c.args.index ≡ Some c.index-scripts-from.result =
    sym (ap₂ (λ xs (n : ℕ). slice_get xs n) c.scripts.ensures c.from.ensures) ∙ slice_get_read _ _ _ _ refl lt c.index-scripts-from.is in
    c.place_for.ensures.value
    ∙ ap₂ (λ (l : Layout) (a : Ui). place_for l a c.args.command.now) c.layout.ensures.value (c.actor.ensures ∙ ap (λ (q : Script). q.actor) (some-same c.index-scripts-from.result script (sym found ∙ at)))
