use Rattle.chorus_explore.specs.Stages.{facts_at}
use Rattle.chorus_explore.proofs.DrawnClaims.{nothing-asked}
use Rattle.chorus_explore.proofs.drawing.Drawing.begin.Goals as goal

pub returns-clause-asked : goal.returns-clause-asked
returns-clause-asked c = λ scene.
    nothing-asked scene c.args.claims.now c.in_ok-judged.judged.items (c.in_ok-judged.ensures.judged (facts_at scene)).many c.in_ok-judged.ensures.none
