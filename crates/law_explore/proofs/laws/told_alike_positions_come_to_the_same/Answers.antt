use Rattle.law_explore.proofs.Merging.{told-alike-go-on, told-alike-is-an-equivalence, places-tell-the-same}
use Rattle.law_explore.proofs.Moments.{nets-tell-the-same}
use Rattle.law_explore.proofs.laws.told_alike_positions_come_to_the_same.Goals as goal

pub returns-clause-on : goal.returns-clause-on
returns-clause-on c = told-alike-go-on

pub returns-clause-equivalence : goal.returns-clause-equivalence
returns-clause-equivalence c = told-alike-is-an-equivalence

pub returns-clause-places : goal.returns-clause-places
returns-clause-places c = places-tell-the-same

pub returns-clause-moments : goal.returns-clause-moments
returns-clause-moments c = nets-tell-the-same
