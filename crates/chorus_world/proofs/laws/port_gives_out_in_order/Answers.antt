use Rattle.chorus_world.proofs.Moments.{always-receives, always-room}
use Rattle.chorus_world.proofs.laws.port_gives_out_in_order.Goals as goal

pub returns : goal.returns
returns c = record { received = always-receives; room = always-room }
