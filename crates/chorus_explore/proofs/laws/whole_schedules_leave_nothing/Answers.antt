use Rattle.chorus_explore.proofs.Whole.{whole-schedules-leave-nothing}
use Rattle.chorus_explore.proofs.laws.whole_schedules_leave_nothing.Goals as goal

pub returns : goal.returns
returns c = whole-schedules-leave-nothing
