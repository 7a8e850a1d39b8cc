use Rattle.chorus_merge.proofs.Numbering.{keeps_journals}
use Rattle.chorus_merge.proofs.laws.merge_keeps_journals.Goals as goal

pub returns : goal.returns
returns c = keeps_journals
