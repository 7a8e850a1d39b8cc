use Rattle.law_replay.proofs.Stays.{closes-the-same, merges-the-same, says-the-same, writes-the-same}
use Rattle.law_replay.proofs.laws.version_one_stays.Goals as goal

pub returns-clause-says : goal.returns-clause-says
returns-clause-says c = says-the-same

pub returns-clause-merges : goal.returns-clause-merges
returns-clause-merges c = merges-the-same

pub returns-clause-closes : goal.returns-clause-closes
returns-clause-closes c = closes-the-same

pub returns-clause-writes : goal.returns-clause-writes
returns-clause-writes c = writes-the-same
