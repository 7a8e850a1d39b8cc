use Rattle.law_outcomes.proofs.Replaying.{replays-are-histories}
use Rattle.law_outcomes.proofs.laws.replays_are_histories.Goals as goal

pub returns : goal.returns
returns c = replays-are-histories
