use Rattle.chorus_picture.proofs.RuleActs.{each_rule_names_its_act}
use Rattle.chorus_picture.proofs.laws.rules_name_their_acts.Goals as goal

pub returns : goal.returns
returns c = each_rule_names_its_act
