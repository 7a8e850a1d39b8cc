use Rattle.std.proofs.Common.{◌≤◌, take}
use Rattle.chorus_merge.specs.Steps.{lent}
use Rattle.chorus_run.specs.Standing.{Did}
use Rattle.chorus_run.proofs.standing.done_of.Given as goal

-- so many commands were done by the entries before this one
abbrev pub invariant-loop-index : goal.invariant-loop-index
invariant-loop-index l = Did l.script.waits l.number (lent (take l.index l.entries)) l.done × (l.done ≤ l.index)
