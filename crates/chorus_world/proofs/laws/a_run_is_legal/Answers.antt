use Rattle.chorus_world.proofs.Moments.{runs-are-legal}
use Rattle.chorus_world.proofs.laws.a_run_is_legal.Goals as goal

pub returns : goal.returns
returns c = runs-are-legal
