use Rattle.chorus_nucleus.proofs.Running.{a-closed-nucleus-is-a-run}
use Rattle.chorus_nucleus.proofs.laws.a_closed_nucleus_is_a_run.Goals as goal

pub returns : goal.returns
returns c = a-closed-nucleus-is-a-run
