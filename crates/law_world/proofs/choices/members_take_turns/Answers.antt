use Rattle.law_world.specs.Choices.{TurnsGoOn}
use Rattle.chorus_world.proofs.Moments.{legal-entries}
use Rattle.law_world.proofs.Choosing.{turns-go-on}
use Rattle.law_world.proofs.choices.members_take_turns.Goals as goal

pub returns : goal.returns
returns c = legal-entries (λ l. TurnsGoOn) turns-go-on
