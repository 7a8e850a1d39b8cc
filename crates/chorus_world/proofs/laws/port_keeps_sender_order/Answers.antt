use Rattle.chorus_world.proofs.Moments.{always-in-order}
use Rattle.chorus_world.proofs.laws.port_keeps_sender_order.Goals as goal

pub returns : goal.returns
returns c = always-in-order
