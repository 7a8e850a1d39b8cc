use Rattle.std.proofs.Common.{◌≤◌, ◌-◌}
use Rattle.std.specs.Vec.{vec_len}
use Rattle.chorus_nucleus.specs.Passes.{caller_of, IsPassOf}
use Rattle.chorus_perform.specs.Runners.{AreEnding, HasRetired}
use Rattle.chorus_perform.proofs.coming.retire.Given as goal

abbrev pub decreases-loop-runner : goal.decreases-loop-runner
decreases-loop-runner l = vec_len l.runners

abbrev pub invariant-loop-runner : goal.invariant-loop-runner
invariant-loop-runner l =
    IsPassOf l.nucleus l.pass × AreEnding l.nucleus l.scenario (caller_of l.fn.pass).last l.runners.items
    × HasRetired l.how l.scenario (vec_len l.runners) (vec_len l.fn.runners - vec_len l.runners) l.fn.pass l.pass
    × (vec_len l.runners ≤ vec_len l.fn.runners)
