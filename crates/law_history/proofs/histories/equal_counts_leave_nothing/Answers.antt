use Rattle.law_history.proofs.Counts.{nothing_left}
use Rattle.law_history.proofs.histories.equal_counts_leave_nothing.Goals as goal

pub returns : goal.returns
returns g c = λ m n opening closing places seats h none below same a b lta ltb. nothing_left _ _ _ _ m n opening closing places seats h none below same a b lta ltb
