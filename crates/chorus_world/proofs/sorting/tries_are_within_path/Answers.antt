use Rattle.chorus_world.proofs.Messages.Tries.{tries_within}
use Rattle.chorus_world.proofs.sorting.tries_are_within_path.Goals as goal

pub returns : goal.returns
returns c = tries_within
