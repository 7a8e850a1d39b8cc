use Rattle.law_emptied.proofs.Taking.{takers-get-what-was-sent-first}
use Rattle.law_emptied.proofs.emptied.takers_get_what_was_sent_first.Goals as goal

pub returns : goal.returns
returns c = takers-get-what-was-sent-first
