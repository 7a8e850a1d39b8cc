use Rattle.law_world.proofs.Holding.{at-actors-site, not-here-means}
use Rattle.law_world.proofs.holders.not_here_means_not_held.Goals as goal

pub returns-clause-place : goal.returns-clause-place
returns-clause-place c = at-actors-site

pub returns-clause-held : goal.returns-clause-held
returns-clause-held c = not-here-means
