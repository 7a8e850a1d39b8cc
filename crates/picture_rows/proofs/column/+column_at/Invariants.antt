use Rattle.std.proofs.Common.{length}
use Rattle.picture_rows.proofs.column.+column_at.Given as goal

abbrev pub decreases-column_at : goal.decreases-column_at
decreases-column_at l = length l.columns.now
