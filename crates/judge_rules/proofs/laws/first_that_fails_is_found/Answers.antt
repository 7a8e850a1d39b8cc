use Rattle.judge_rules.proofs.Finding.{first_found}
use Rattle.judge_rules.proofs.laws.first_that_fails_is_found.Goals as goal

pub returns : goal.returns
returns c = first_found
