use Rattle.chorus_judge.proofs.Blamed.{agree_with_audits}
use Rattle.chorus_judge.proofs.laws.blames_agree_with_audits.Goals as goal

pub returns : goal.returns
returns c = agree_with_audits
