use Rattle.law_summary.proofs.Counting.{summaries_count, fates_follow}
use Rattle.law_summary.proofs.Numbering.{summaries_count_rest}
use Rattle.law_summary.proofs.law.a_summary_counts_the_world.Goals as goal

pub returns-clause-counts : goal.returns-clause-counts
returns-clause-counts c = summaries_count

pub returns-clause-fates : goal.returns-clause-fates
returns-clause-fates c = fates_follow

pub returns-clause-rest : goal.returns-clause-rest
returns-clause-rest c = summaries_count_rest
