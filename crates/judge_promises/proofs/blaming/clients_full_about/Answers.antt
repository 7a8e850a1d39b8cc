use Rattle.std.proofs.Common.{[], ◌∷◌, ◌∙◌, ap}
use Rattle.judge_rules.specs.declared.about.About.TheVariants as About
use Rattle.judge_promises.specs.Blames.{about_at, deciding_about}
use Rattle.judge_promises.proofs.blaming.clients_full_about.Goals as goal

pub returns : goal.returns
returns c =
    c.held_about.ensures
    ∙ ap (λ last. about_at (deciding_about c.args.id (About.Moves c.args.port ∷ last ∷ [])) c.args.number) c.source_of.ensures
