use Rattle.judge_seats.proofs.Meaning.{out_first}
use Rattle.judge_seats.proofs.laws.out_is_the_first.Goals as goal

pub returns : goal.returns
returns c = out_first
