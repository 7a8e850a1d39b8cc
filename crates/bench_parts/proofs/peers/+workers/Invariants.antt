use Rattle.std.proofs.Common.{◌+◌, ◌*◌, ◌-◌}
use Rattle.bench_parts.proofs.peers.+workers.Given as goal

abbrev pub decreases-work_from : goal.decreases-work_from
decreases-work_from g l = 2 * (8 - l.site)

abbrev pub decreases-others : goal.decreases-others
decreases-others g l = 2 * (7 - l.site) + 1
