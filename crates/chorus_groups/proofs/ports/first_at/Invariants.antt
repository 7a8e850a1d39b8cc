use Rattle.std.proofs.Common.{◌≡◌, drop}
use Rattle.chorus_groups.specs.Choosing.{first_at}
use Rattle.chorus_groups.proofs.ports.first_at.Given as goal

abbrev pub invariant-loop-i : goal.invariant-loop-i
invariant-loop-i l = first_at l.site l.ports l.located ≡ first_at l.site (drop l.i l.ports) (drop l.i l.located)
