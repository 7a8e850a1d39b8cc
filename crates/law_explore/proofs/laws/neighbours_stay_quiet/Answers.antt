use Rattle.law_explore.proofs.Quiet.{neighbours-stay-quiet}
use Rattle.law_explore.proofs.laws.neighbours_stay_quiet.Goals as goal

pub returns : goal.returns
returns c = λ r ms m o race h apart quiet. neighbours-stay-quiet r ms m o race h apart quiet
