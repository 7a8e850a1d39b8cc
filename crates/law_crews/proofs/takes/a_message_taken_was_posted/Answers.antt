use Rattle.chorus_nucleus.proofs.Posted.{messages-taken-were-posted}
use Rattle.law_crews.proofs.takes.a_message_taken_was_posted.Goals as goal

pub returns : goal.returns
returns c = messages-taken-were-posted
