use Rattle.std.proofs.Common.{[], ◌∷◌, ◌∙◌, ap}
use Rattle.judge_rules.specs.declared.about.About.TheVariants as About
use Rattle.judge_promises.specs.Blames.{about_at}
use Rattle.judge_promises.proofs.blaming.held_about.Goals as goal

pub returns : goal.returns
returns c =
    let behind = About.Message c.args.id ∷ About.Moves c.args.port ∷ c.args.last ∷ [] in
    c.about_at.ensures ∙ ap (λ first. about_at (first ∷ behind) c.args.number) c.source_of.ensures
