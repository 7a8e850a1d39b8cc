use Rattle.chorus_program.proofs.Legal.{runs_are_legal}
use Rattle.chorus_program.proofs.printed_is_legal.what_is_printed_is_legal.Goals as goal

pub returns : goal.returns
returns c = runs_are_legal
