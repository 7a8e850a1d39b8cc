use Rattle.chorus_world.proofs.Seats.Answered.{one-at-most, one-answers}
use Rattle.chorus_world.proofs.laws.exactly_one_act_answers.Goals as goal

pub returns : goal.returns
returns c = record { most = one-at-most; one = one-answers }
