use Rattle.law_history.proofs.Counts.{behind_all_seen}
use Rattle.law_history.proofs.histories.stands_behind_all_seen.Goals as goal

pub returns : goal.returns
returns g c = λ m opening closing places seats turns s p q us vs ws xs ys d e at by. behind_all_seen _ _ _ _ m opening closing places seats turns s p q us vs ws xs ys d e at by
