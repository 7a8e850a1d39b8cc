use Rattle.chorus_world.proofs.Moments.{always-chosen-once, always-by-choice}
use Rattle.chorus_world.proofs.laws.port_keeps_choice_order.Goals as goal

pub returns : goal.returns
returns c = record { once = always-chosen-once; order = always-by-choice }
