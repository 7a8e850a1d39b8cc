use Rattle.std.proofs.Common.{◌≡◌, ◌≤◌, length, take}
use Rattle.std.specs.Vec.{vec_capacity}
use Rattle.chorus_merge.specs.Steps.{lent}
use Rattle.chorus_merge.proofs.merging.borrow_all.Given as goal

abbrev pub invariant-loop-entry : goal.invariant-loop-entry
invariant-loop-entry l = (lent l.entries.items ≡ take l.entry-index l.journal) × (length l.journal ≤ vec_capacity l.entries)
