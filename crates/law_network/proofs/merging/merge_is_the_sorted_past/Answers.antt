use Rattle.law_network.proofs.Merge.Sorts.{merges-as-sorted}
use Rattle.law_network.proofs.merging.merge_is_the_sorted_past.Goals as goal

pub returns : goal.returns
returns c = merges-as-sorted
