use Rattle.law_history.proofs.Appending.{turns-append}
use Rattle.law_history.proofs.journals.turns_append_entries.Goals as goal

pub returns : goal.returns
returns c = turns-append
