use Rattle.chorus_world.proofs.Ports.PortLaws.{accepted_grows}
use Rattle.chorus_world.proofs.laws.accepted_messages_stay.Goals as goal

pub returns : goal.returns
returns c = accepted_grows
