use Rattle.std.proofs.Common.{length}
use Rattle.chorus_picture.proofs.below_rows.+push_line_bytes.Given as goal

abbrev pub decreases-push_line_bytes : goal.decreases-push_line_bytes
decreases-push_line_bytes l = length l.text.now
