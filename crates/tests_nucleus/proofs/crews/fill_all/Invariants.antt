use Rattle.chorus_nucleus.specs.Passes.{IsPassOf}
use Rattle.tests_nucleus.proofs.crews.fill_all.Given as goal

abbrev pub invariant-loop-site : goal.invariant-loop-site
invariant-loop-site g l = IsPassOf l.nucleus l.keeper
