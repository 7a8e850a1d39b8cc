use Rattle.law_outcomes.proofs.Replaying.{outcomes-are-of-replays, replays-are-among-outcomes, texts-are-among-outcomes, wholes-are-among-outcomes}
use Rattle.law_outcomes.proofs.laws.replays_are_among_outcomes.Goals as goal

pub returns-clause-wholes : goal.returns-clause-wholes
returns-clause-wholes c = wholes-are-among-outcomes

pub returns-clause-told : goal.returns-clause-told
returns-clause-told c = replays-are-among-outcomes

pub returns-clause-seen : goal.returns-clause-seen
returns-clause-seen c = outcomes-are-of-replays

pub returns-clause-texts : goal.returns-clause-texts
returns-clause-texts c = texts-are-among-outcomes
