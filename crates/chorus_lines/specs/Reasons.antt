-- Why a text is refused: the numbers of the reasons, and the fault of a line.
use Rattle.std.specs.Prelude.{ℕ}
use Rattle.chorus_lines.specs.declared.word.Reason.{Reason}
use Rattle.chorus_lines.specs.declared.word.Reason.TheVariants as reasons
use Rattle.chorus_lines.specs.declared.fault.Stop.{Stop}
use Rattle.chorus_lines.specs.declared.fault.Stop.TheVariants as stops
use Rattle.chorus_lines.specs.declared.fault.ReadFault.{ReadFault}
use Rattle.chorus_lines.specs.declared.fault.ReadFault.TheVariants as faults

-- the reason's number in a fault
abbrev pub reason_number : Reason → ℕ
reason_number reasons.Header = 1
reason_number reasons.Word = 2
reason_number reasons.Number = 3
reason_number reasons.Unknown = 4
reason_number reasons.Twice = 5
reason_number reasons.Limit = 6
reason_number reasons.Order = 7
reason_number reasons.Text = 8
reason_number reasons.Unfinished = 9
reason_number reasons.Schedule = 10

-- what reading ends with that stopped at the line
abbrev pub fault_at : ℕ → Stop → ReadFault
fault_at line (stops.Memory error) = faults.Memory error
fault_at line (stops.Fault reason) = faults.Scene (record { line = line; reason = reason_number reason })
