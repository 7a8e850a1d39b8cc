use Rattle.chorus_world.proofs.Moments.{run-receives, run-keeps}
use Rattle.chorus_world.proofs.laws.a_run_keeps_each_message.Goals as goal

pub returns : goal.returns
returns c = record { received = run-receives; fate = run-keeps }
