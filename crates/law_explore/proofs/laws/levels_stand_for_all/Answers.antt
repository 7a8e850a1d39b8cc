use Rattle.law_explore.proofs.Once.{histories-are-listed}
use Rattle.law_explore.proofs.Levels.{levels-stand-for-all}
use Rattle.law_explore.proofs.laws.levels_stand_for_all.Goals as goal

pub returns-clause-levels : goal.returns-clause-levels
returns-clause-levels c = λ r same n race tells. levels-stand-for-all r same n race tells

pub returns-clause-listed : goal.returns-clause-listed
returns-clause-listed c = λ r n. histories-are-listed r n
