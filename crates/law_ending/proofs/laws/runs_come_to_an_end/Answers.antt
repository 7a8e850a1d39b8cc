use Rattle.law_ending.proofs.Lowering.{deliveries-are-few}
use Rattle.law_ending.proofs.Rounds.{rounds-work, rounds-end, rounds-are-made, drains-take-few}
use Rattle.law_ending.proofs.laws.runs_come_to_an_end.Goals as goal

pub returns-clause-few : goal.returns-clause-few
returns-clause-few c = deliveries-are-few

pub returns-clause-works : goal.returns-clause-works
returns-clause-works c = rounds-work

pub returns-clause-ends : goal.returns-clause-ends
returns-clause-ends c = rounds-end

pub returns-clause-made : goal.returns-clause-made
returns-clause-made c = rounds-are-made

pub returns-clause-drains : goal.returns-clause-drains
returns-clause-drains c = drains-take-few
