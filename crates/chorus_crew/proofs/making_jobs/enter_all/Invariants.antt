use Rattle.std.proofs.Common.{◌≤◌, length, take, vec_capacity}
use Rattle.chorus_nucleus.specs.Passes.{caller_of, known}
use Rattle.chorus_crew.specs.Jobs.{AreEntered, BeginAt, HasDrawn}
use Rattle.chorus_crew.proofs.making_jobs.enter_all.Given as goal

abbrev pub invariant-loop-index : goal.invariant-loop-index
invariant-loop-index l = record {
  drawn : HasDrawn l.nucleus l.index l.fn.pass l.pass;
  entered : AreEntered l.nucleus 0 (known l.fn.pass).made (take l.index l.ports) l.jobs.items;
  later : BeginAt (caller_of l.fn.pass).last l.jobs.items;
  room : length l.ports ≤ vec_capacity l.jobs;
}
