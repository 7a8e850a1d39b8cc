use Rattle.law_history.proofs.Runs.{scheduled}
use Rattle.law_history.proofs.histories.histories_are_scheduled.Goals as goal

pub returns : goal.returns
returns g c = λ m count opening closing places seats r few h. scheduled m count opening closing places seats r few h
