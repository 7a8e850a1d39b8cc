use Rattle.chorus_choose.proofs.Ringing.{waiting}
use Rattle.chorus_choose.proofs.bell_ends.Waiter.wait.Goals as goal

pub park_as-requires-clause-rule : goal.park_as-requires-clause-rule
park_as-requires-clause-rule g c = waiting _ _ _
