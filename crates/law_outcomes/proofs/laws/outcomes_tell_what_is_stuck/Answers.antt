use Rattle.law_outcomes.proofs.Stuck.{outcomes-tell-what-is-stuck}
use Rattle.law_outcomes.proofs.laws.outcomes_tell_what_is_stuck.Goals as goal

pub returns : goal.returns
returns c = outcomes-tell-what-is-stuck
