use Rattle.law_replies.proofs.Turns.{turns-tell}
use Rattle.law_replies.proofs.Networks.{networks-tell, schedules-tell}
use Rattle.law_replies.proofs.replies.reply_is_what_happened.Goals as goal

pub returns-clause-networks : goal.returns-clause-networks
returns-clause-networks c = networks-tell

pub returns-clause-schedules : goal.returns-clause-schedules
returns-clause-schedules c = schedules-tell

pub returns-clause-turns : goal.returns-clause-turns
returns-clause-turns c = turns-tell
