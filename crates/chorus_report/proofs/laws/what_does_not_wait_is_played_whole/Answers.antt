use Rattle.chorus_report.proofs.Awaiting.{runs-without-waits, whole-runs}
use Rattle.chorus_report.proofs.laws.what_does_not_wait_is_played_whole.Goals as goal

pub returns-clause-whole : goal.returns-clause-whole
returns-clause-whole c = runs-without-waits

pub returns-clause-runs : goal.returns-clause-runs
returns-clause-runs c = whole-runs
