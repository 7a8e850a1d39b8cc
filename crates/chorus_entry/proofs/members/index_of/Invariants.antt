use Rattle.std.proofs.Common.{◌≡◌, ◌+◌, drop}
use Rattle.chorus_entry.specs.Members.{index_of}
use Rattle.chorus_entry.proofs.members.index_of.Given as goal

abbrev pub invariant-loop-i : goal.invariant-loop-i
invariant-loop-i l = index_of l.port l.members ≡ l.i + index_of l.port (drop l.i l.members)
