use Rattle.chorus_explore.proofs.Whole.{shown-schedules-are-replayed}
use Rattle.chorus_explore.proofs.laws.shown_schedules_are_replayed.Goals as goal

pub returns : goal.returns
returns c = shown-schedules-are-replayed
