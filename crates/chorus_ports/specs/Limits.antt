-- The limits that each record of a table keeps.
use Rattle.std.specs.Prelude.{◌≡◌, ℕ, ◌+◌, ◌-◌, ◌^◌, ◌<◌, ◌≤◌, true, List, [], ◌∷◌, length}
use Rattle.chorus_entry.specs.declared.record.PortRecord.{PortRecord}
use Rattle.chorus_ui.specs.declared.limits.TheConstants.{CLIENTS_LIMIT, PENDING_LIMIT}
use Rattle.chorus_ports.specs.Table.{are_distinct}

-- its capacity is 1 to 64, no more messages wait than that, at most 64 clients are remembered, and the position of its
-- next message is a number of 64 bits
pub record IsWithinLimits (port : PortRecord) : Type 0 where
  pub capacity_from_one : 1 ≤ port.capacity
  pub capacity_in_limit : port.capacity ≤ PENDING_LIMIT
  pub pending_in_capacity : length port.pending ≤ port.capacity
  pub clients_in_limit : length port.clients ≤ CLIENTS_LIMIT
  pub positions_in_64_bits : port.first + length port.pending ≤ 2 ^ 64 - 1

-- a message more has a position of 64 bits
abbrev pub HasPositionLeft : PortRecord → Type 0
HasPositionLeft port = port.first + length port.pending < 2 ^ 64 - 1

-- each record keeps its limits
abbrev pub AreWithinLimits : List PortRecord → Type 0
AreWithinLimits [] = Unit {0}
AreWithinLimits (r ∷ rs) = IsWithinLimits r × AreWithinLimits rs

-- what each table keeps: each port has one record, each record keeps its limits, and there is room for `most` at least
pub record IsTable (records : List PortRecord) (most capacity : ℕ) : Type 0 where
  pub distinct : are_distinct records ≡ true
  pub limits : AreWithinLimits records
  pub within : length records ≤ most
  pub most_in_16_bits : most < 2 ^ 16
  pub room : most ≤ capacity
