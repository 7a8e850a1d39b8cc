use Rattle.chorus_program.proofs.Lines.{one_of}
use Rattle.chorus_program.proofs.ending.ended.Goals as goal

pub returns-clause-line : goal.returns-clause-line
returns-clause-line g c = record { prefix = c.say.ensures.prefix; whole = one_of c.say.result c.say.ensures.ok c.say.ensures.failed }
