use Rattle.std.proofs.Common.{◌≤◌, ◌-◌, length, take}
use Rattle.chorus_choose.specs.Looking.{ports_of}
use Rattle.chorus_choose.proofs.Asking.{Looked}
use Rattle.chorus_choose.proofs.chooser.Chooser.round.Given as goal

abbrev pub invariant-loop-looked : goal.invariant-loop-looked
invariant-loop-looked g l = record {
  within : l.looked ≤ length l.self;
  looked : Looked l.nucleus (ports_of (take l.looked l.self)) l.fn.pass l.pass;
}

abbrev pub decreases-loop-looked : goal.decreases-loop-looked
decreases-loop-looked g l = length l.self - l.looked
