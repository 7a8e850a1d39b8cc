use Rattle.law_history.proofs.Listed.{schedules-leave-lists}
use Rattle.law_history.proofs.places.schedules_leave_places_and_links.Goals as goal

pub returns : goal.returns
returns c = schedules-leave-lists
