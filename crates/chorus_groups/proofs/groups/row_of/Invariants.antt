use Rattle.std.proofs.Common.{◌≡◌, ◌+◌, drop}
use Rattle.chorus_groups.specs.Groups.{row_of}
use Rattle.chorus_groups.proofs.groups.row_of.Given as goal

abbrev pub invariant-loop-i : goal.invariant-loop-i
invariant-loop-i l = row_of l.group l.groups ≡ l.i + row_of l.group (drop l.i l.groups)
