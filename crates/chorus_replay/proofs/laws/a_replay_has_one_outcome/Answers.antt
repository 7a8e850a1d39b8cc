use Rattle.chorus_replay.proofs.Once.{ordered-once, replays-once}
use Rattle.chorus_replay.proofs.laws.a_replay_has_one_outcome.Goals as goal

pub returns-clause-tasks : goal.returns-clause-tasks
returns-clause-tasks c = ordered-once

pub returns-clause-bytes : goal.returns-clause-bytes
returns-clause-bytes c = replays-once
