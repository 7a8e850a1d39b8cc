use Rattle.chorus_choose.proofs.Changed.{changes-order}
use Rattle.chorus_choose.proofs.laws.looking_order.Goals as goal

pub returns : goal.returns
returns c = changes-order
