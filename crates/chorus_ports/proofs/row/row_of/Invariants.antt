use Rattle.std.proofs.Common.{◌≡◌, ◌+◌, drop}
use Rattle.chorus_ports.specs.Rows.{row_of}
use Rattle.chorus_ports.proofs.row.row_of.Given as goal

-- the port is none of those passed
abbrev pub invariant-loop-row : goal.invariant-loop-row
invariant-loop-row l = row_of l.port l.records ≡ l.row + row_of l.port (drop l.row l.records)
