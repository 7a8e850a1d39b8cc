use Rattle.std.proofs.Common.{◌≡◌, ◌++◌, List, map, reverse}
use Rattle.std.specs.List.{All}
use Rattle.chorus_nucleus.specs.declared.pass.Pass.{Pass}
use Rattle.chorus_crew.specs.declared.job.Job.{Job}
use Rattle.chorus_crew.specs.Jobs.{IsPlain}
use Rattle.chorus_crew.specs.Retiring.{TakesIn}
use Rattle.chorus_crew.proofs.retiring.retire_jobs.Given as goal

abbrev pub invariant-loop-job : goal.invariant-loop-job
invariant-loop-job l = record {
  ended : List Pass;
  takes_in : TakesIn l.nucleus l.fn.pass l.pass ended;
  all : ended ++ map (λ (j : Job). j.pass) (reverse l.jobs.items) ≡ map (λ (j : Job). j.pass) (reverse l.fn.jobs.items);
  plain : All (λ (j : Job). IsPlain l.nucleus j.pass) l.jobs.items;
}

abbrev pub decreases-loop-job : goal.decreases-loop-job
decreases-loop-job l = goal.left-loop-job l
