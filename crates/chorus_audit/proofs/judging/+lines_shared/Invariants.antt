use Rattle.std.proofs.Common.{length}
use Rattle.chorus_audit.proofs.judging.+lines_shared.Given as goal

abbrev pub decreases-lines_shared : goal.decreases-lines_shared
decreases-lines_shared l = length l.one.now
