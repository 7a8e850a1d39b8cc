use Rattle.judge_seats.proofs.Meaning.{told_seats}
use Rattle.judge_seats.proofs.laws.told_seats_make_a_run.Goals as goal

pub returns : goal.returns
returns c = told_seats
