use Rattle.law_outcomes.proofs.Playing.{plays-are-histories}
use Rattle.law_outcomes.proofs.laws.plays_are_histories.Goals as goal

pub returns : goal.returns
returns c = plays-are-histories
