use Rattle.judge_rules.proofs.Blaming.{blames_agree}
use Rattle.judge_rules.proofs.laws.blames_agree.Goals as goal

pub returns : goal.returns
returns c = blames_agree
