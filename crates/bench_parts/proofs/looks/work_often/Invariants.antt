use Rattle.chorus_nucleus.specs.Passes.{IsPassOf}
use Rattle.bench_parts.proofs.looks.work_often.Given as goal

abbrev pub invariant-loop : goal.invariant-loop
invariant-loop g l = IsPassOf l.nucleus l.pass
