use Rattle.law_explore.proofs.Exploring.{races_are_explored}
use Rattle.law_explore.proofs.laws.races_are_explored.Goals as goal

pub returns : goal.returns
returns c = λ r most ms. races_are_explored r most ms
