use Rattle.chorus_turn.proofs.Jobs.{remarks_added}
use Rattle.tests_turns.proofs.turns.AddJobLog.run.Goals as goal

pub returns-clause-remarks : goal.returns-clause-remarks
returns-clause-remarks c = λ log was. let more = remarks_added c.args.self.now.clock _ _ _ c.add.ensures log was.0 in (more.0, (more.1, tt), more.2)
