use Rattle.law_crews.proofs.Looks.{looks-told}
use Rattle.law_crews.proofs.takes.a_look_in_vain_found_nothing.Goals as goal

pub returns : goal.returns
returns c = looks-told
