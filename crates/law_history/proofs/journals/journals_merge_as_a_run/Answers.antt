use Rattle.law_history.proofs.Merging.{journals-merge-as-a-run, journals-keep-promises}
use Rattle.law_history.proofs.journals.journals_merge_as_a_run.Goals as goal

pub returns-clause-run : goal.returns-clause-run
returns-clause-run c = journals-merge-as-a-run

pub returns-clause-promises : goal.returns-clause-promises
returns-clause-promises c = journals-keep-promises
