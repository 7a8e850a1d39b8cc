use Rattle.law_explore.proofs.Neighbours.{commute, stay}
use Rattle.law_explore.proofs.laws.neighbours_commute.Goals as goal

pub returns-clause-commute : goal.returns-clause-commute
returns-clause-commute c = λ n e f order h. commute n e f order h

pub returns-clause-stay : goal.returns-clause-stay
returns-clause-stay c = λ n e f order h. stay n e f order h
