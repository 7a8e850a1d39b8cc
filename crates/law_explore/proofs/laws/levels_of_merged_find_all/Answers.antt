use Rattle.law_explore.proofs.Found.{levels-of-merged-find-all}
use Rattle.law_explore.proofs.laws.levels_of_merged_find_all.Goals as goal

pub returns : goal.returns
returns c = levels-of-merged-find-all
