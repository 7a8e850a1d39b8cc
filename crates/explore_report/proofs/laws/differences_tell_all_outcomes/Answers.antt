use Rattle.explore_report.proofs.Differing.{differences-tell}
use Rattle.explore_report.proofs.laws.differences_tell_all_outcomes.Goals as goal

pub returns : goal.returns
returns c = λ fs. differences-tell fs
