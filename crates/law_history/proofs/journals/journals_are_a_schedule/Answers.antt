use Rattle.law_history.proofs.Scheduled.{journals-are-a-schedule}
use Rattle.law_history.proofs.journals.journals_are_a_schedule.Goals as goal

pub returns : goal.returns
returns c = journals-are-a-schedule
