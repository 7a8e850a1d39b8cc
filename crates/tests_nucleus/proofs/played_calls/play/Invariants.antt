use Rattle.chorus_nucleus.specs.Passes.{IsPassOf}
use Rattle.tests_nucleus.proofs.played_calls.play.Given as goal

abbrev pub invariant-loop-row : goal.invariant-loop-row
invariant-loop-row g l = IsPassOf l.nucleus l.pass
