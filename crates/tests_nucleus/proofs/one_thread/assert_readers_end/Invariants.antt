use Rattle.chorus_nucleus.specs.Passes.{IsPassOf}
use Rattle.tests_nucleus.proofs.one_thread.assert_readers_end.Given as goal

abbrev pub invariant-loop : goal.invariant-loop
invariant-loop g l = IsPassOf l.nucleus l.keeper × IsPassOf l.nucleus l.into
