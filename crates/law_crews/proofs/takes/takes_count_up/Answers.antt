use Rattle.law_crews.proofs.Positions.{takes-count-up, takes-follow}
use Rattle.law_crews.proofs.Seats.{legal-takes-of-a-seat}
use Rattle.law_crews.proofs.takes.takes_count_up.Goals as goal

pub returns-clause-count : goal.returns-clause-count
returns-clause-count c = takes-count-up

pub returns-clause-follow : goal.returns-clause-follow
returns-clause-follow c = takes-follow

pub returns-clause-seat : goal.returns-clause-seat
returns-clause-seat c = legal-takes-of-a-seat
