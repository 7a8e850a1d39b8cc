use Rattle.std.proofs.Common.{◌≡◌, ◌≤◌, count_by, take}
use Rattle.chorus_entry.specs.declared.entry.Entry.{Entry}
use Rattle.run_counter.specs.Counting.{counts}
use Rattle.run_counter.proofs.counting.count.Given as goal

abbrev pub invariant-loop-index : goal.invariant-loop-index
invariant-loop-index l = (l.counted ≡ count_by (λ (e : Entry). counts l.counter e.act) (take l.index l.entries)) × (l.counted ≤ l.index)
