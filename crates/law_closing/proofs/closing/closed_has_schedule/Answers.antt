use Rattle.law_closing.proofs.Schedules.{closed}
use Rattle.law_closing.proofs.closing.closed_has_schedule.Goals as goal

pub returns : goal.returns
returns g c = λ m is_new start count log v end pushed out popped hand left. closed m is_new start count log v end pushed out popped hand left
