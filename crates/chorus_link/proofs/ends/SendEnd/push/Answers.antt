use Rattle.chorus_link.proofs.Steps.{puts, was_put}
use Rattle.chorus_link.proofs.ends.SendEnd.push.Goals as goal

pub push_as-requires-clause-rule : goal.push_as-requires-clause-rule
push_as-requires-clause-rule g c = (puts _ _ _ _ c.loop.self.puts, was_put _ _ c.loop.self.puts)
