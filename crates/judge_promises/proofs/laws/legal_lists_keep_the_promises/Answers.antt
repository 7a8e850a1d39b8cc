use Rattle.judge_promises.proofs.Keeping.{keep_the_promises}
use Rattle.judge_promises.proofs.laws.legal_lists_keep_the_promises.Goals as goal

pub returns : goal.returns
returns c = keep_the_promises
