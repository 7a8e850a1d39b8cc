use Rattle.law_outcomes.proofs.Reading.{closed-tells-outcome}
use Rattle.law_outcomes.proofs.laws.closed_tells_outcome.Goals as goal

pub returns : goal.returns
returns c = closed-tells-outcome
