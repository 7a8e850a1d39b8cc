use Rattle.chorus_nucleus.proofs.Trying.{Waited}
use Rattle.chorus_nucleus.proofs.taking.take_when_free.Given as goal

abbrev pub invariant-loop : goal.invariant-loop
invariant-loop g l = Waited l.nucleus l.fn.pass l.pass
