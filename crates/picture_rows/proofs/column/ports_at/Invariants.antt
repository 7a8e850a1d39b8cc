use Rattle.std.proofs.Common.{◌≡◌, ◌≤◌, length, drop, []}
use Rattle.picture_rows.specs.Columns.{with_ports_at}
use Rattle.picture_rows.proofs.column.ports_at.Given as goal

-- the entries that are left bring what is missing, and each of the others brought one port at most
abbrev pub invariant-loop-entry : goal.invariant-loop-entry
invariant-loop-entry l =
    (with_ports_at l.fn.place l.ports.items (drop l.entry-index l.entries) ≡ with_ports_at l.fn.place [] l.entries)
    × (length l.ports.items ≤ l.entry-index)
