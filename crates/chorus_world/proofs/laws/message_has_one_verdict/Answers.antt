use Rattle.chorus_world.proofs.Messages.VerdictLemmas.{has_one_verdict}
use Rattle.chorus_world.proofs.laws.message_has_one_verdict.Goals as goal

pub returns : goal.returns
returns c = has_one_verdict
