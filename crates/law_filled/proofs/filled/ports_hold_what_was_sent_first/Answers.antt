use Rattle.law_filled.proofs.Accepted.{ports-hold}
use Rattle.law_filled.proofs.filled.ports_hold_what_was_sent_first.Goals as goal

pub returns : goal.returns
returns c = ports-hold
