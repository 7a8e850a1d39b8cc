use Rattle.std.proofs.Common.{◌≡◌, ◌≤◌, length}
use Rattle.std.specs.Vec.{vec_len, vec_capacity}
use Rattle.chorus_nucleus.specs.Passes.{caller_of, IsPassOf}
use Rattle.chorus_perform.specs.Runners.{HasEntered, AreEntered}
use Rattle.chorus_perform.proofs.coming.enter.Given as goal

abbrev pub invariant-loop-index : goal.invariant-loop-index
invariant-loop-index l =
    IsPassOf l.nucleus l.pass × HasEntered l.index l.fn.pass l.pass × AreEntered l.nucleus l.scenario (caller_of l.fn.pass).last l.runners.items × (vec_len l.runners ≡ l.index)
    × (length l.scenario.scripts ≤ vec_capacity l.runners)
