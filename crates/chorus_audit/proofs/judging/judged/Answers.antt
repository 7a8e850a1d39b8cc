use Rattle.chorus_audit.proofs.Steps.{verdict_of}
use Rattle.chorus_audit.proofs.judging.judged.Goals as goal

pub returns : goal.returns
returns c = verdict_of _ _ _ _ c.in_ok-reading.ensures
