use Rattle.law_explore.specs.Races.{replaying, next_moves}
use Rattle.law_explore.proofs.Walking.{walk_keeps}
use Rattle.law_explore.proofs.laws.races_are_walked.Goals as goal

pub returns : goal.returns
returns c = λ r. walk_keeps (replaying r) (next_moves r)
