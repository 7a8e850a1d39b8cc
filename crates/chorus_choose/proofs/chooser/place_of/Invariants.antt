use Rattle.std.proofs.Common.{◌≡◌, ◌++◌, take, drop}
use Rattle.chorus_choose.specs.declared.chooser.Enabled.{Enabled}
use Rattle.chorus_choose.specs.Looking.{placed}
use Rattle.chorus_choose.proofs.chooser.place_of.Given as goal

abbrev pub invariant-loop-i : goal.invariant-loop-i
invariant-loop-i l = (e : Enabled) → e.priority ≡ l.priority → placed e l.enabled ≡ take l.i l.enabled ++ placed e (drop l.i l.enabled)
