use Rattle.std.proofs.Common.{length}
use Rattle.picture_rows.proofs.column.+right_after.Given as goal

abbrev pub decreases-right_after : goal.decreases-right_after
decreases-right_after l = length l.columns.now
