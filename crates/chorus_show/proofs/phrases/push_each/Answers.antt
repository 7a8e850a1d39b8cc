use Rattle.std.proofs.Common.{◌∷◌, ◌++◌, ◌∙◌, ap, sym}
use Rattle.std.specs.List.{flat_map}
use Rattle.std.proofs.lemmas.List.{take_all}
use Rattle.std.proofs.lemmas.List.Folds.{flat_map-map}
use Rattle.chorus_show.proofs.phrases.push_each.Goals as goal

pub returns-clause-text : goal.returns-clause-text
returns-clause-text g c =
    let fields = c.args.fields.now in
    let all = take_all c.loop-field.field-index fields c.loop-field-test.false in
    c.loop-field.invariant.text
    ∙ ap (λ xs. c.args.out.now.items ++ flat_map (λ x. 32 ∷ g.T.Field.text x) xs) all
    ∙ ap (λ text. c.args.out.now.items ++ text) (sym (flat_map-map (λ field. 32 ∷ field) g.T.Field.text fields))
