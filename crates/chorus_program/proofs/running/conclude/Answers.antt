use Rattle.std.proofs.Common.{◌≡◌}
use Rattle.chorus_program.proofs.Concluding.{concludes-no-usage, concludes-none, concludes-same}
use Rattle.chorus_program.proofs.running.conclude.Goals as goal

pub returns-in-Ok-Some-clause-usage : goal.returns-in-Ok-Some-clause-usage
returns-in-Ok-Some-clause-usage g c is =
    absurd (concludes-no-usage c.conclude_asked.result _ _ _ _ _ _ _ _ _ c.args.nucleus c.in-Ok-Some.asked c.conclude_asked.ensures.concludes is)

pub returns-in-Ok-Some-clause-concludes : goal.returns-in-Ok-Some-clause-concludes
returns-in-Ok-Some-clause-concludes g c other asks =
    let same : c.in-Ok-Some.asked ≡ other = cc (c.in-Ok-Some.ensures.listed other asks, c.in-Ok-Some.field-0-is) in
    concludes-same c.conclude_asked.result _ _ _ _ _ _ _ _ _ c.args.nucleus c.in-Ok-Some.asked other same c.conclude_asked.ensures.concludes

pub returns-in-Ok-None-clause-concludes : goal.returns-in-Ok-None-clause-concludes
returns-in-Ok-None-clause-concludes g c asked asks = absurd (cc (c.in-Ok-None.ensures.listed asked asks, c.in-Ok-None.field-0-is))

pub returns-in-Err-clause-concludes : goal.returns-in-Err-clause-concludes
returns-in-Err-clause-concludes g c asked asks = concludes-none c.turn_away-in-Err.result c.turn_away-in-Err.ensures _ _ _ _ _ _ _ c.args.nucleus asked
