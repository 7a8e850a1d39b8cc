use Rattle.law_bounds.proofs.Starting.{start-within}
use Rattle.law_bounds.proofs.Commands.{act-within}
use Rattle.law_bounds.proofs.Packets.{work-within}
use Rattle.law_bounds.proofs.laws.turns_stay_within.Goals as goal

pub returns-clause-start : goal.returns-clause-start
returns-clause-start c = start-within

pub returns-clause-act : goal.returns-clause-act
returns-clause-act c = act-within

pub returns-clause-work : goal.returns-clause-work
returns-clause-work c = work-within
