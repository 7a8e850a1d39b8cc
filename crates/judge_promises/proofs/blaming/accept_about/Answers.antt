use Rattle.std.proofs.Common.{[], ◌∷◌, ◌∙◌, ap}
use Rattle.judge_rules.specs.declared.about.About.TheVariants as About
use Rattle.judge_promises.specs.Blames.{about_at}
use Rattle.judge_promises.proofs.blaming.accept_about.Goals as goal

pub returns : goal.returns
returns c =
    let x = c.args.id in
    let q = c.args.port in
    let behind = About.Message x ∷ About.Moves q ∷ About.Queue q ∷ About.Accepts q ∷ About.AcceptsOf q x.seat ∷ About.AcceptsOf q x.seat ∷ [] in
    c.about_at.ensures ∙ ap (λ first. about_at (first ∷ behind) c.args.number) c.source_of.ensures
