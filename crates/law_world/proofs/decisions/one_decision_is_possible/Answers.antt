use Rattle.law_world.proofs.Causes.{one-decision}
use Rattle.law_world.proofs.Possible.{some-decision}
use Rattle.law_world.proofs.decisions.one_decision_is_possible.Goals as goal

pub returns-clause-most : goal.returns-clause-most
returns-clause-most c = one-decision

pub returns-clause-some : goal.returns-clause-some
returns-clause-some c = some-decision
