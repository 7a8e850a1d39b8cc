use Rattle.std.proofs.Common.{◌≡◌, ◌≤◌, ◌++◌, ℕ, List, length}
use Rattle.std.specs.Global.{Vec}
use Rattle.std.specs.Io.KnownBytes.{Appends}
use Rattle.chorus_run.specs.ReportParts.Parts.{whole}
use Rattle.chorus_run.proofs.report_parts.writing.write_parts.Given as goal

-- the parts before the rest were written
abbrev pub invariant-loop-rest : goal.invariant-loop-rest
invariant-loop-rest g l =
    (sent : List (Vec ℕ)) × (l.parts ≡ sent ++ l.rest)
    × Appends (g.K.Sink.held l.fn.sink) (g.K.Sink.held l.sink) (whole sent)
    × (g.K.Sink.faults l.fn.sink ≤ g.K.Sink.faults l.sink)

abbrev pub decreases-loop-rest : goal.decreases-loop-rest
decreases-loop-rest g l = length l.rest
