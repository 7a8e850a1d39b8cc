use Rattle.chorus_ui.proofs.Texts.{before_found, behind_found, before_missed, behind_missed}
use Rattle.chorus_ui.proofs.ui.split_at_dot.Goals as goal

pub returns-in-Some-clause-before : goal.returns-in-Some-clause-before
returns-in-Some-clause-before c = before_found c.args.text.now c.in-Some.dot c.in-Some.ensures

pub returns-in-Some-clause-behind : goal.returns-in-Some-clause-behind
returns-in-Some-clause-behind c = behind_found c.args.text.now c.in-Some.dot c.in-Some.ensures

pub returns-in-None-clause-before : goal.returns-in-None-clause-before
returns-in-None-clause-before c = before_missed c.args.text.now c.in-None.ensures

pub returns-in-None-clause-behind : goal.returns-in-None-clause-behind
returns-in-None-clause-behind c = behind_missed c.args.text.now c.in-None.ensures
