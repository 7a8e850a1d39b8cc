use Rattle.chorus_claims.proofs.Choosing.{all-ways-are-chosen}
use Rattle.chorus_claims.proofs.laws.all_ways_are_chosen.Goals as goal

pub returns : goal.returns
returns c = all-ways-are-chosen
