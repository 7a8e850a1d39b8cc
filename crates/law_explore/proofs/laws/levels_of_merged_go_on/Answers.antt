use Rattle.law_explore.proofs.Members.{levels-of-merged-go-on}
use Rattle.law_explore.proofs.laws.levels_of_merged_go_on.Goals as goal

pub returns : goal.returns
returns c = levels-of-merged-go-on
