use Rattle.chorus_judge.proofs.Quieting.{quiet_is_quiet}
use Rattle.chorus_judge.proofs.laws.quiet_judgement.Goals as goal

pub returns : goal.returns
returns c = quiet_is_quiet
