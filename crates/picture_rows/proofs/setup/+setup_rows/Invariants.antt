use Rattle.std.proofs.Common.{length}
use Rattle.picture_rows.proofs.setup.+setup_rows.Given as goal

abbrev pub decreases-setup_rows : goal.decreases-setup_rows
decreases-setup_rows l = length l.entries.now
