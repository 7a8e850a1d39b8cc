use Rattle.chorus_world.proofs.Moments.{always-rise, always-once}
use Rattle.chorus_world.proofs.laws.request_is_accepted_once.Goals as goal

pub returns : goal.returns
returns c = record { rise = always-rise; once = always-once }
