use Rattle.law_judged.proofs.Waited.{what_is_stuck_may_be}
use Rattle.law_judged.proofs.laws.what_is_stuck_may_be.Goals as goal

pub returns : goal.returns
returns c = what_is_stuck_may_be
