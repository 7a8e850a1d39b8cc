use Rattle.chorus_world.proofs.Moments.{always-keeps}
use Rattle.chorus_world.proofs.laws.accepted_message_has_one_fate.Goals as goal

pub returns : goal.returns
returns c = always-keeps
