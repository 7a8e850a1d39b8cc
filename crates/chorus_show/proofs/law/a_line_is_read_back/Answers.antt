use Rattle.chorus_show.proofs.LineBack.{lines_are_read_back}
use Rattle.chorus_show.proofs.law.a_line_is_read_back.Goals as goal

pub returns : goal.returns
returns c = lines_are_read_back
