use Rattle.law_world.proofs.Looks.{looks-tell}
use Rattle.law_world.proofs.holders.a_look_in_vain_finds_nothing.Goals as goal

pub returns : goal.returns
returns c = looks-tell
