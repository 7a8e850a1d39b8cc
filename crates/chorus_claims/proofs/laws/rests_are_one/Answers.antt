use Rattle.chorus_claims.proofs.Choosing.{rests-are-one}
use Rattle.chorus_claims.proofs.laws.rests_are_one.Goals as goal

pub returns : goal.returns
returns c = rests-are-one
