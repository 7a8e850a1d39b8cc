use Rattle.law_closing.proofs.Places.{closed-places}
use Rattle.law_closing.proofs.Actors.{closed-places-in}
use Rattle.law_closing.proofs.closing.closed_places_have_histories.Goals as goal

pub returns-clause-some : goal.returns-clause-some
returns-clause-some c = closed-places

pub returns-clause-given : goal.returns-clause-given
returns-clause-given c = closed-places-in
