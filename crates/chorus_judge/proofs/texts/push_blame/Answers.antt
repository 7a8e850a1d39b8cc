use Rattle.std.proofs.Common.{[], ◌∷◌, ◌++◌, ap, ◌∙◌, append_assoc}
use Rattle.chorus_show.specs.Phrases.{spaced}
use Rattle.chorus_judge.specs.Texts.{about_fields, blamed_line}
use Rattle.chorus_judge.proofs.texts.push_blame.Goals as goal

pub returns : goal.returns
returns c =
    let b = c.args.blame.now in
    let out = c.args.out.now.items in
    let about = spaced (about_fields b.about) in
    c.in_ok-push.ensures.items
    ∙ ap (λ t. t ++ 10 ∷ []) (c.in_ok-push_about.ensures ∙ ap (λ t. t ++ about) c.in_ok-push_blamed.ensures ∙ append_assoc out (blamed_line b) about)
    ∙ append_assoc out (blamed_line b ++ about) (10 ∷ [])
