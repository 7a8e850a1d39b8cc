use Rattle.std.proofs.Common.{◌≡◌, ◌-◌, ◌^◌, ℕ, min}
use Rattle.chorus_choose.specs.Looking.{ports_of}
use Rattle.chorus_choose.specs.Rounds.{rounds}
use Rattle.chorus_choose.specs.Bells.{waiter_bell}
use Rattle.chorus_choose.specs.Waits.{HasWaited}
use Rattle.chorus_choose.proofs.Asking.{Looked}
use Rattle.chorus_choose.proofs.chooser.Chooser.wait_receive.Given as goal

abbrev pub invariant-loop : goal.invariant-loop
invariant-loop g l = record {
  bell : waiter_bell l.waiter ≡ waiter_bell l.fn.waiter;
  n : ℕ;
  parks : l.parks ≡ min n (2 ^ 32 - 1);
  waited : HasWaited n (ports_of l.self) l.fn.pass l.fn.waiter l.waiter;
  looked : Looked l.nucleus (rounds n (ports_of l.self)) l.fn.pass l.pass;
}
