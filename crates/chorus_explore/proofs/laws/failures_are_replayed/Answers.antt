use Rattle.chorus_explore.proofs.Failing.{failures-are-replayed}
use Rattle.chorus_explore.proofs.laws.failures_are_replayed.Goals as goal

pub returns : goal.returns
returns c = failures-are-replayed
