use Rattle.law_picture.proofs.Standing.{bars_are_of_the_world}
use Rattle.law_picture.proofs.laws.bars_are_of_the_world.Goals as goal

pub returns : goal.returns
returns c = bars_are_of_the_world
