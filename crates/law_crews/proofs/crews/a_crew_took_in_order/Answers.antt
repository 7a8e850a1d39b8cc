use Rattle.law_crews.proofs.InOrder.{crews-took-in-order}
use Rattle.law_crews.proofs.crews.a_crew_took_in_order.Goals as goal

pub returns : goal.returns
returns c = crews-took-in-order
