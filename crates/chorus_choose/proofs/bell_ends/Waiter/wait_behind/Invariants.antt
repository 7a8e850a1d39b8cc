use Rattle.std.proofs.Common.{length}
use Rattle.chorus_nucleus.specs.Passes.{known}
use Rattle.chorus_choose.proofs.bell_ends.Waiter.wait_behind.Given as goal

abbrev pub ghosts-wait_noting : goal.ghosts-wait_noting
ghosts-wait_noting g a = record { made = length (known a._pass.now).mine }
