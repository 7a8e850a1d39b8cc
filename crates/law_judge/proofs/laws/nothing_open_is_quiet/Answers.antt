use Rattle.law_judge.proofs.Quiet.{nothing_open_is_quiet}
use Rattle.law_judge.proofs.laws.nothing_open_is_quiet.Goals as goal

pub returns : goal.returns
returns c = nothing_open_is_quiet
