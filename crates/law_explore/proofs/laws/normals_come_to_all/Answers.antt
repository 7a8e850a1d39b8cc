use Rattle.law_explore.proofs.Carriers.{normals-come}
use Rattle.law_explore.proofs.laws.normals_come_to_all.Goals as goal

pub returns : goal.returns
returns c = λ r ms race whole. normals-come r ms race whole
