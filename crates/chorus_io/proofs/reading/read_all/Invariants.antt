-- What is kept is what was read, and it is within the limit.
use Rattle.std.proofs.Common.{◌-◌, vec_len}
use Rattle.chorus_io.proofs.Progress.{Read}
use Rattle.chorus_io.proofs.reading.read_all.Given as goal

abbrev pub invariant-loop-bytes : goal.invariant-loop-bytes
invariant-loop-bytes g l =
    Read (g.S.Source.left l.initial.source) (g.S.Source.left l.source) l.bytes.items l.limit
    (g.S.Source.faults l.initial.source) (g.S.Source.faults l.source)
    (g.S.Source.reliable l.initial.source) (g.S.Source.reliable l.source)

abbrev pub decreases-loop-bytes : goal.decreases-loop-bytes
decreases-loop-bytes g l = l.limit - vec_len l.bytes
