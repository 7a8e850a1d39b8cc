use Rattle.law_history.proofs.Left.{turns-put-for-others}
use Rattle.law_history.proofs.places.turns_put_for_other_places.Goals as goal

pub returns : goal.returns
returns c = turns-put-for-others
