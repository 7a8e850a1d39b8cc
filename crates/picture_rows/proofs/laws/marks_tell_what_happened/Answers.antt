use Rattle.picture_rows.proofs.MarkKinds.{each_mark_tells}
use Rattle.picture_rows.proofs.laws.marks_tell_what_happened.Goals as goal

pub returns : goal.returns
returns c = each_mark_tells
