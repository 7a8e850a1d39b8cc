use Rattle.law_explore.specs.Alike.{ReadAlike, ActAlike}
use Rattle.law_explore.proofs.Alike.{keep_reads, keep_acts}
use Rattle.law_explore.specs.Positions.{TellAlike, AskAlike}
use Rattle.law_explore.proofs.Telling.{keep_tells, keep_asks}
use Rattle.law_explore.proofs.Nets.{nets-stay-alike}
use Rattle.law_explore.proofs.laws.networks_stay_alike.Goals as goal

pub returns-clause-reads : goal.returns-clause-reads
returns-clause-reads c = λ count n m e f h same. nets-stay-alike ReadAlike keep_reads count n m e f h same

pub returns-clause-acts : goal.returns-clause-acts
returns-clause-acts c = λ count n m e f h same. nets-stay-alike ActAlike keep_acts count n m e f h same

pub returns-clause-tells : goal.returns-clause-tells
returns-clause-tells c = λ count n m e f h same. nets-stay-alike TellAlike keep_tells count n m e f h same

pub returns-clause-asks : goal.returns-clause-asks
returns-clause-asks c = λ asks count n m e f h same. nets-stay-alike (AskAlike asks) (keep_asks asks) count n m e f h same
