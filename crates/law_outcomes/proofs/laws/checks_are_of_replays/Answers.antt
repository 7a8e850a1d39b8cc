use Rattle.law_outcomes.proofs.Replaying.{checks-are-of-replays}
use Rattle.law_outcomes.proofs.laws.checks_are_of_replays.Goals as goal

pub returns : goal.returns
returns c = checks-are-of-replays
