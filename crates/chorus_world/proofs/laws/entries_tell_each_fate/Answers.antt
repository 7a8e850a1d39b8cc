use Rattle.chorus_world.specs.AcceptedLaws.{DiscardedByFate, ReceivedByFate}
use Rattle.chorus_world.proofs.Ports.ByFate.{received_by_fate, discarded_by_fate}
use Rattle.chorus_world.proofs.Moments.{always-on}
use Rattle.chorus_world.proofs.laws.entries_tell_each_fate.Goals as goal

pub returns : goal.returns
returns c = record { received = always-on ReceivedByFate received_by_fate; discarded = always-on DiscardedByFate discarded_by_fate }
