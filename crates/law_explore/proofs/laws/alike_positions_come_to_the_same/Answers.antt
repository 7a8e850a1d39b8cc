use Rattle.law_explore.proofs.Positions.{alike-come, alike-is-an-equivalence}
use Rattle.law_explore.proofs.laws.alike_positions_come_to_the_same.Goals as goal

pub returns-clause-same : goal.returns-clause-same
returns-clause-same c = λ r ms os more race history alike h. alike-come r ms os more race history alike h

pub returns-clause-equivalence : goal.returns-clause-equivalence
returns-clause-equivalence c = λ count. alike-is-an-equivalence count
