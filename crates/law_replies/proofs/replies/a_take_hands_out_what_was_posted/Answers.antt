use Rattle.law_replies.proofs.Networks.{takes-are-posted}
use Rattle.law_replies.proofs.Histories.{histories-take-posted}
use Rattle.law_replies.proofs.replies.a_take_hands_out_what_was_posted.Goals as goal

pub returns-clause-schedules : goal.returns-clause-schedules
returns-clause-schedules c = takes-are-posted

pub returns-clause-histories : goal.returns-clause-histories
returns-clause-histories c = histories-take-posted
