use Rattle.chorus_replay.proofs.LoadTasks.{loads-once}
use Rattle.chorus_replay.proofs.laws.a_load_has_one_outcome.Goals as goal

pub returns : goal.returns
returns c = loads-once
