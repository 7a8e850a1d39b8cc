-- A front of the bytes was written.
use Rattle.std.proofs.Common.{◌-◌, length}
use Rattle.chorus_io.proofs.Progress.{Wrote}
use Rattle.chorus_io.proofs.writing.write_all.Given as goal

abbrev pub invariant-loop-at : goal.invariant-loop-at
invariant-loop-at g l =
    Wrote (g.K.Sink.held l.initial.sink) (g.K.Sink.held l.sink) l.bytes l.at (g.K.Sink.faults l.initial.sink) (g.K.Sink.faults l.sink)

abbrev pub decreases-loop-at : goal.decreases-loop-at
decreases-loop-at g l = length l.bytes - l.at
