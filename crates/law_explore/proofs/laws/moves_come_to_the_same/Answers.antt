use Rattle.law_explore.proofs.Replays.{moves_come_to_the_same}
use Rattle.law_explore.proofs.laws.moves_come_to_the_same.Goals as goal

pub returns : goal.returns
returns c = λ r q one other ms h k. moves_come_to_the_same r q one other ms h k
