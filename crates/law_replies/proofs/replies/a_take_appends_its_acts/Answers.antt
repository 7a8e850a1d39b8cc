use Rattle.law_replies.proofs.Turns.{takes-append}
use Rattle.law_replies.proofs.replies.a_take_appends_its_acts.Goals as goal

pub returns : goal.returns
returns c = takes-append
