use Rattle.law_crews.proofs.InOrder.{passes-take-in-order}
use Rattle.law_crews.proofs.takes.a_pass_takes_in_order.Goals as goal

pub returns : goal.returns
returns c = passes-take-in-order
