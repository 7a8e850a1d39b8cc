use Rattle.law_replay.proofs.Shown.{shows}
use Rattle.law_replay.proofs.Stuck.{stuck-so}
use Rattle.law_replay.proofs.laws.a_schedule_shows_its_outcome.Goals as goal

pub returns-clause-closes : goal.returns-clause-closes
returns-clause-closes c = λ scene ms status closed h ended played none. shows scene ms status closed h ended played none

pub returns-clause-stuck : goal.returns-clause-stuck
returns-clause-stuck c = λ scene ms status closed h ended played none. stuck-so scene ms status closed h ended played none
