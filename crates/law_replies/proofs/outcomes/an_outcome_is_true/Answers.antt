use Rattle.law_replies.proofs.Told.{legal-outcomes, schedules-outcomes}
use Rattle.law_replies.proofs.Histories.{histories-outcomes}
use Rattle.law_replies.proofs.outcomes.an_outcome_is_true.Goals as goal

pub returns-clause-legal : goal.returns-clause-legal
returns-clause-legal c = legal-outcomes

pub returns-clause-schedules : goal.returns-clause-schedules
returns-clause-schedules c = schedules-outcomes

pub returns-clause-histories : goal.returns-clause-histories
returns-clause-histories c = histories-outcomes
