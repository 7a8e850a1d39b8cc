use Rattle.chorus_scene.proofs.Kept.{kept, old_do_not_wait}
use Rattle.chorus_scene.proofs.laws.a_scenario_keeps_its_limits.Goals as goal

pub returns : goal.returns
returns c = record { keeps = kept; no_wait = old_do_not_wait }
