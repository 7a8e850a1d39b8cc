use Rattle.std.proofs.Common.{length}
use Rattle.chorus_nucleus.proofs.starting.end_boards.Given as goal

abbrev pub decreases-loop-site : goal.decreases-loop-site
decreases-loop-site g l = length l.sites.items
