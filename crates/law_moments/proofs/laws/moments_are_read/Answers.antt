use Rattle.law_moments.proofs.Answering.{answers-are-read}
use Rattle.law_moments.proofs.Fronts.{moments-are-fronts}
use Rattle.law_moments.proofs.Reading.{moments-are-read, outcomes-are-read}
use Rattle.law_moments.proofs.laws.moments_are_read.Goals as goal

pub returns-clause-answers : goal.returns-clause-answers
returns-clause-answers c = answers-are-read

pub returns-clause-outcomes : goal.returns-clause-outcomes
returns-clause-outcomes c = outcomes-are-read

pub returns-clause-moments : goal.returns-clause-moments
returns-clause-moments c = moments-are-read

pub returns-clause-fronts : goal.returns-clause-fronts
returns-clause-fronts c = moments-are-fronts
