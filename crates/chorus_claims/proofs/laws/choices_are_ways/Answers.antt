use Rattle.chorus_claims.proofs.Choosing.{choices-are-ways}
use Rattle.chorus_claims.proofs.laws.choices_are_ways.Goals as goal

pub returns : goal.returns
returns c = choices-are-ways
