use Rattle.law_outcomes.proofs.Texts.{all-is-uncut}
use Rattle.law_outcomes.proofs.laws.all_is_uncut.Goals as goal

pub returns : goal.returns
returns c = all-is-uncut
