use Rattle.law_runs.proofs.Histories.{run-texts-are-among-outcomes, runs-are-among-outcomes, runs-meet-claims}
use Rattle.law_runs.proofs.laws.runs_are_among_outcomes.Goals as goal

pub returns-clause-told : goal.returns-clause-told
returns-clause-told c = runs-are-among-outcomes

pub returns-clause-claims : goal.returns-clause-claims
returns-clause-claims c = runs-meet-claims

pub returns-clause-texts : goal.returns-clause-texts
returns-clause-texts c = run-texts-are-among-outcomes
