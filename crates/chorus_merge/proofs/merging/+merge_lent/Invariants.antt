use Rattle.std.proofs.Common.{length}
use Rattle.chorus_merge.proofs.merging.+merge_lent.Given as goal

abbrev pub decreases-merge_lent : goal.decreases-merge_lent
decreases-merge_lent l = length l.journals.now
