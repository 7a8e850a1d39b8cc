use Rattle.law_outcomes.proofs.Facts.{texts-tell-outcomes}
use Rattle.law_outcomes.proofs.laws.texts_tell_outcomes.Goals as goal

pub returns : goal.returns
returns c = texts-tell-outcomes
