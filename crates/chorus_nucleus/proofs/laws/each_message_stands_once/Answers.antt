use Rattle.chorus_nucleus.proofs.Running.{each-message-stands-once}
use Rattle.chorus_nucleus.proofs.laws.each_message_stands_once.Goals as goal

pub returns : goal.returns
returns c = each-message-stands-once
