use Rattle.chorus_merge.proofs.Sorted.{is_sorted, is_only_one}
use Rattle.chorus_merge.proofs.laws.merge_is_the_sorted_list.Goals as goal

pub returns : goal.returns
returns c = record { sorted = is_sorted; only = is_only_one }
