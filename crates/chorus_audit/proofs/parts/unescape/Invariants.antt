use Rattle.std.proofs.Common.{length}
use Rattle.chorus_audit.proofs.Bodies.{Sofar}
use Rattle.chorus_audit.proofs.parts.unescape.Given as goal

abbrev pub invariant-loop-byte : goal.invariant-loop-byte
invariant-loop-byte l = Sofar l.text l.bytes.items l.left

abbrev pub decreases-loop-byte : goal.decreases-loop-byte
decreases-loop-byte l = length l.left
