use Rattle.chorus_show.proofs.LineBack.{lines_tell_entries}
use Rattle.chorus_show.proofs.law.a_line_has_one_entry.Goals as goal

pub returns : goal.returns
returns c = lines_tell_entries
