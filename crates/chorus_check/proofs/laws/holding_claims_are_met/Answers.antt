use Rattle.chorus_explore.proofs.Returning.{replays-are-whole}
use Rattle.chorus_check.proofs.Holding.{holding-claims-are-met}
use Rattle.chorus_check.proofs.laws.holding_claims_are_met.Goals as goal

pub returns : goal.returns
returns c = holding-claims-are-met replays-are-whole
