use Rattle.judge_seats.proofs.Meaning.{runs_none_out}
use Rattle.judge_seats.proofs.laws.runs_have_none_out.Goals as goal

pub returns : goal.returns
returns c = runs_none_out
