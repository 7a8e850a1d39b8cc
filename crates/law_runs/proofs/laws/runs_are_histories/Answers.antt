use Rattle.law_runs.proofs.Histories.{runs-are-histories, whole-runs-are-runs}
use Rattle.law_runs.proofs.laws.runs_are_histories.Goals as goal

pub returns-clause-histories : goal.returns-clause-histories
returns-clause-histories c = runs-are-histories

pub returns-clause-whole : goal.returns-clause-whole
returns-clause-whole c = whole-runs-are-runs
