use Rattle.chorus_world.specs.DecisionLaws.{HearsTheEnd, TellsTheVerdict}
use Rattle.chorus_world.proofs.Messages.Told.{hears_the_end, tells_the_verdict}
use Rattle.chorus_world.proofs.Moments.{legal-entries}
use Rattle.chorus_world.proofs.laws.told_is_the_verdict.Goals as goal

pub returns : goal.returns
returns c = record { told = legal-entries (λ l. TellsTheVerdict) tells_the_verdict; heard = legal-entries (λ l. HearsTheEnd) hears_the_end }
