use Rattle.explore_report.proofs.Singles.{facts-tell}
use Rattle.explore_report.proofs.laws.single_facts_tell_all_outcomes.Goals as goal

pub returns : goal.returns
returns c = λ fs. facts-tell fs
