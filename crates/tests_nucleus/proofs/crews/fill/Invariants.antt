use Rattle.chorus_nucleus.specs.Passes.{IsPassOf}
use Rattle.tests_nucleus.proofs.crews.fill.Given as goal

abbrev pub invariant-loop-number : goal.invariant-loop-number
invariant-loop-number g l = IsPassOf l.nucleus l.pass

abbrev pub invariant-loop : goal.invariant-loop
invariant-loop g l = IsPassOf l.nucleus l.pass
