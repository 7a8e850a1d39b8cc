use Rattle.chorus_turn.proofs.Jobs.{remarks_added}
use Rattle.tests_turns.proofs.turns.InsideJobLog.run.Goals as goal

pub returns-clause-remarks : goal.returns-clause-remarks
returns-clause-remarks c = λ log was. let more = remarks_added 7 _ _ _ c.add.ensures log was.0 in (more.0, (more.1, tt), tt)
