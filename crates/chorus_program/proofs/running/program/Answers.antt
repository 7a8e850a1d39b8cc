use Rattle.chorus_program.proofs.Concluding.{concluded-is-done}
use Rattle.chorus_program.proofs.running.program.Goals as goal

pub returns-clause-does : goal.returns-clause-does
returns-clause-does g c asked asks =
    concluded-is-done c.conclude.result _ _ _ _ _ _ _ _ _ c.args.nucleus asked (c.conclude.ensures.concludes asked asks)
