use Rattle.law_history.proofs.Left.{counts-tell}
use Rattle.law_history.proofs.places.counts_tell_what_is_left.Goals as goal

pub returns : goal.returns
returns c = counts-tell
