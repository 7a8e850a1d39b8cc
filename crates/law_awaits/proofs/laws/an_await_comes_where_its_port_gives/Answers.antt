use Rattle.law_awaits.proofs.Gives.{would-take-is-gives}
use Rattle.law_awaits.proofs.laws.an_await_comes_where_its_port_gives.Goals as goal

pub returns : goal.returns
returns c = would-take-is-gives
