use Rattle.law_replies.proofs.Answered.{own-act-answers}
use Rattle.law_replies.proofs.answers.own_act_answers.Goals as goal

pub returns : goal.returns
returns c = own-act-answers
