use Rattle.chorus_world.proofs.Sorted.LookingHome.{answers_look}
use Rattle.chorus_world.proofs.sorting.answers_look_at_home.Goals as goal

pub returns : goal.returns
returns c = answers_look
