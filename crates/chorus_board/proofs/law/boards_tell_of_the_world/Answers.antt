use Rattle.chorus_board.proofs.Worlds.{tells-of-world}
use Rattle.chorus_board.proofs.law.boards_tell_of_the_world.Goals as goal

pub returns : goal.returns
returns c = tells-of-world
