use Rattle.law_history.proofs.Falling.{turns-climb, journals-fall}
use Rattle.law_history.proofs.journals.journals_rise.Goals as goal

pub returns-clause-turn : goal.returns-clause-turn
returns-clause-turn c = turns-climb

pub returns-clause-all : goal.returns-clause-all
returns-clause-all c = journals-fall
