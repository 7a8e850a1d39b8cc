use Rattle.law_judged.proofs.Judged.{judged_a_run}
use Rattle.law_judged.proofs.laws.what_is_printed_is_judged_a_run.Goals as goal

pub returns : goal.returns
returns c = judged_a_run
