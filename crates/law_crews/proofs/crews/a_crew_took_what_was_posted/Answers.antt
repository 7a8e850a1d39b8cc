use Rattle.law_crews.proofs.Taken.{crews-took-what-was-posted}
use Rattle.law_crews.proofs.crews.a_crew_took_what_was_posted.Goals as goal

pub returns : goal.returns
returns c = crews-took-what-was-posted
