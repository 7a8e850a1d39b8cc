use Rattle.std.proofs.Common.{◌≡◌, ◌≤◌, length, take}
use Rattle.std.specs.Vec.{vec_capacity}
use Rattle.chorus_merge.specs.Steps.{lent}
use Rattle.chorus_merge.proofs.merging.merge.Given as goal

abbrev pub invariant-loop-entry : goal.invariant-loop-entry
invariant-loop-entry l = (l.entries.items ≡ lent (take l.entry-index l.entry-items)) × (length l.entry-items ≤ vec_capacity l.entries)
