use Rattle.chorus_hints.proofs.Lessons.{never_falls, farthest, first_stays, was_learned, made_or_learned}
use Rattle.chorus_hints.proofs.law.hops_never_fall.Goals as goal

pub returns-clause-never_falls : goal.returns-clause-never_falls
returns-clause-never_falls c = never_falls

pub returns-clause-farthest : goal.returns-clause-farthest
returns-clause-farthest c = farthest

pub returns-clause-first : goal.returns-clause-first
returns-clause-first c = first_stays

pub returns-clause-learned : goal.returns-clause-learned
returns-clause-learned c = was_learned

pub returns-clause-newest : goal.returns-clause-newest
returns-clause-newest c = made_or_learned
