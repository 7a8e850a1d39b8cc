use Rattle.chorus_scene.proofs.Lines.{too_long}
use Rattle.chorus_scene.proofs.Order.{first_fault, no_end, accepted}
use Rattle.chorus_scene.proofs.laws.lines_are_tested_in_order.Goals as goal

pub returns : goal.returns
returns c = record { too_long = too_long; first_fault = first_fault; no_end = no_end; accepted = accepted }
