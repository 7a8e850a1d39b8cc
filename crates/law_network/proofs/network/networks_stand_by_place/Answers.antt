use Rattle.law_network.proofs.Holdings.Passing.{schedules-stand-by-place}
use Rattle.law_network.proofs.network.networks_stand_by_place.Goals as goal

pub returns : goal.returns
returns c = schedules-stand-by-place
