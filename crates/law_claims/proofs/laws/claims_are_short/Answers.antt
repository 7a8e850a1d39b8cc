use Rattle.law_claims.proofs.Few.{claims-are-short}
use Rattle.law_claims.proofs.laws.claims_are_short.Goals as goal

pub returns : goal.returns
returns c = claims-are-short
