use Rattle.law_closing.proofs.Behind.{merge-follows}
use Rattle.law_closing.proofs.closing.merges_follow_what_was_seen.Goals as goal

pub returns : goal.returns
returns g c = λ count log v merge of t mine notes h. merge-follows count log v merge of t mine notes h
