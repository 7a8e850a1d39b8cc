use Rattle.chorus_choose.proofs.Turns.{none-starves}
use Rattle.chorus_choose.proofs.laws.no_port_starves.Goals as goal

pub returns : goal.returns
returns c = none-starves
