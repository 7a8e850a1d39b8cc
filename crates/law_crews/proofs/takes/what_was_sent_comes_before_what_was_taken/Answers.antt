use Rattle.law_crews.proofs.Crewed.{closed-merges-as-crewed}
use Rattle.law_crews.proofs.takes.what_was_sent_comes_before_what_was_taken.Goals as goal

pub returns : goal.returns
returns c = closed-merges-as-crewed
