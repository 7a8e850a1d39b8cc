use Rattle.chorus_calls.proofs.Laws.{given_once, settled_once}
use Rattle.chorus_calls.proofs.law.settled_at_most_once.Goals as goal

-- src/law.rt:8:1
pub returns-clause-given : goal.returns-clause-given
returns-clause-given c = given_once

-- src/law.rt:8:1
pub returns-clause-settled : goal.returns-clause-settled
returns-clause-settled c = settled_once
