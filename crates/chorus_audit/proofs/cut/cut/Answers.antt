use Rattle.chorus_audit.proofs.Cutting.{found_before, found_whole, found_parts, missed_before, missed_parts}
use Rattle.chorus_audit.proofs.cut.cut.Goals as goal

pub returns-in-Some-clause-before : goal.returns-in-Some-clause-before
returns-in-Some-clause-before c = found_before c.args.mark c.args.text.now c.in-Some.at c.in-Some.ensures

pub returns-in-Some-clause-whole : goal.returns-in-Some-clause-whole
returns-in-Some-clause-whole c = found_whole c.args.mark c.args.text.now c.in-Some.at c.in-Some.ensures

pub returns-in-Some-clause-parts : goal.returns-in-Some-clause-parts
returns-in-Some-clause-parts c = found_parts c.args.mark c.args.text.now c.in-Some.at c.in-Some.ensures

pub returns-in-None-clause-before : goal.returns-in-None-clause-before
returns-in-None-clause-before c = missed_before c.args.mark c.args.text.now c.in-None.ensures

pub returns-in-None-clause-parts : goal.returns-in-None-clause-parts
returns-in-None-clause-parts c = missed_parts c.args.mark c.args.text.now c.in-None.ensures
