use Rattle.law_picture.proofs.Forward.{arrows_lead_forward}
use Rattle.law_picture.proofs.Arrows.{arrows_are_of_the_world, what_comes_from_afar_has_one}
use Rattle.law_picture.proofs.laws.packets_have_arrows.Goals as goal

pub returns-clause-forward : goal.returns-clause-forward
returns-clause-forward c = arrows_lead_forward

pub returns-clause-world : goal.returns-clause-world
returns-clause-world c = arrows_are_of_the_world

pub returns-clause-afar : goal.returns-clause-afar
returns-clause-afar c = what_comes_from_afar_has_one
