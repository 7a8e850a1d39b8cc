use Rattle.law_claims.proofs.Before.{throughout-asks, before-is-throughout}
use Rattle.law_claims.proofs.laws.throughout_asks_at_each_moment.Goals as goal

pub returns-clause-throughout : goal.returns-clause-throughout
returns-clause-throughout c = throughout-asks

pub returns-clause-before : goal.returns-clause-before
returns-clause-before c = before-is-throughout
