use Rattle.std.proofs.Common.{length}
use Rattle.chorus_audit.proofs.Counting.{Sofar}
use Rattle.chorus_audit.proofs.commands.commands_in.Given as goal

-- what was counted and what is left are the whole
abbrev pub invariant-loop-left : goal.invariant-loop-left
invariant-loop-left l = Sofar l.table l.entries l.left

abbrev pub decreases-loop-left : goal.decreases-loop-left
decreases-loop-left l = length l.left
