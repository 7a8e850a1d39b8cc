use Rattle.judge_rules.proofs.Rules.{conditions_are}
use Rattle.judge_rules.proofs.laws.conditions_are_the_rules.Goals as goal

pub returns : goal.returns
returns c = conditions_are
