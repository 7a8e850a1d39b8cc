use Rattle.chorus_world.specs.SentLaws.{AcceptsWhatWasSent}
use Rattle.chorus_world.proofs.Messages.WasSent.{accepts_what_was_sent}
use Rattle.chorus_world.proofs.Moments.{always-legal}
use Rattle.chorus_world.proofs.laws.port_accepts_what_was_sent.Goals as goal

pub returns : goal.returns
returns c = always-legal AcceptsWhatWasSent accepts_what_was_sent
