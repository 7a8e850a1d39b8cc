use Rattle.chorus_world.proofs.Messages.Decided.{knows_what_left}
use Rattle.chorus_world.proofs.Messages.MessageSteps.{locates}
use Rattle.chorus_world.proofs.sorting.locates_on_path.Goals as goal

pub returns : goal.returns
returns c = record { path = locates; ahead = knows_what_left }
