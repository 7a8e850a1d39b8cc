use Rattle.std.proofs.Common.{◌≡◌, take, drop, ◌++◌}
use Rattle.chorus_entry.specs.ClientTable.{with_number}
use Rattle.chorus_entry.proofs.record.clients.ClientTable.set.Given as goal

-- the entries passed are renumbered, and the others stand
abbrev pub invariant-loop-entry : goal.invariant-loop-entry
invariant-loop-entry l =
    l.entry-items
    ≡ with_number (take l.entry-index l.initial.entry-items) l.client l.number
    ++ drop l.entry-index l.initial.entry-items
