use Rattle.chorus_nucleus.specs.Passes.{IsPassOf}
use Rattle.tests_nucleus.proofs.crews.run_crews.Given as goal

abbrev pub invariant-loop-turn : goal.invariant-loop-turn
invariant-loop-turn g l = IsPassOf l.nucleus l.pass
