use Rattle.std.proofs.Common.{◌+◌, ◌≤◌, List, length}
use Rattle.chorus_entry.specs.declared.entry.Entry.{Entry}
use Rattle.chorus_audit.specs.Stuck.{AreGiven}
use Rattle.chorus_audit.proofs.Waiters.{Leads}
use Rattle.chorus_audit.proofs.awaits.skip_lines.Given as goal

-- what goes on from here goes from the start, and each line has a byte
abbrev pub invariant-loop-script : goal.invariant-loop-script
invariant-loop-script l = ((es : List Entry) → AreGiven l.table es → Leads es l.text l.last l.count l.left) × (l.count + length l.left ≤ length l.text)

abbrev pub decreases-loop-script : goal.decreases-loop-script
decreases-loop-script l = length l.left
