use Rattle.law_closing.proofs.Seen.{all-seen}
use Rattle.law_closing.proofs.closing.closed_journals_are_those_seen.Goals as goal

pub returns : goal.returns
returns g c = λ count log v t h. all-seen count log v t h
