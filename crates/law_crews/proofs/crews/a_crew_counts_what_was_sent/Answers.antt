use Rattle.law_crews.proofs.Counted.{crews-count-what-was-sent}
use Rattle.law_crews.proofs.crews.a_crew_counts_what_was_sent.Goals as goal

pub returns : goal.returns
returns c = crews-count-what-was-sent
