use Rattle.law_explore.proofs.Races.{races_need_normals_only}
use Rattle.law_explore.proofs.laws.races_need_normals_only.Goals as goal

pub returns : goal.returns
returns c = λ r who order. races_need_normals_only r who order
