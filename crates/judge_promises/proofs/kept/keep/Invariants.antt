use Rattle.std.proofs.Common.{◌≡◌}
use Rattle.std.specs.Vec.Iter.{into_iter_items}
use Rattle.judge_promises.proofs.Fronts.{Front}
use Rattle.judge_promises.proofs.kept.keep.Given as goal

-- the entries are those of the log and those that are left
abbrev pub invariant-loop-entry : goal.invariant-loop-entry
invariant-loop-entry l = goal.iterator-loop-entry.can_next l.entry-iterator
    × goal.iterator-loop-entry.is_finite l.entry-iterator
    × Front l.fn.layout l.fn.entries.items l.log (into_iter_items l.entry-iterator)
