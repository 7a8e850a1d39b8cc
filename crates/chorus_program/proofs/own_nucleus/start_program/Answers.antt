use Rattle.std.proofs.Common.{◌≡◌}
use Rattle.chorus_program.proofs.Concluding.{own-concludes-no-usage, own-concludes-none, own-concludes-same}
use Rattle.chorus_program.proofs.own_nucleus.start_program.Goals as goal

pub returns-in-Ok-Some-clause-usage : goal.returns-in-Ok-Some-clause-usage
returns-in-Ok-Some-clause-usage g c is =
    absurd (own-concludes-no-usage c.conclude_on_own.result _ _ _ _ _ _ _ _ _ c.in-Ok-Some.asked c.conclude_on_own.ensures.concludes is)

pub returns-in-Ok-Some-clause-concludes : goal.returns-in-Ok-Some-clause-concludes
returns-in-Ok-Some-clause-concludes g c other asks =
    let same : c.in-Ok-Some.asked ≡ other = cc (c.in-Ok-Some.ensures.listed other asks, c.in-Ok-Some.field-0-is) in
    own-concludes-same c.conclude_on_own.result _ _ _ _ _ _ _ _ _ c.in-Ok-Some.asked other same c.conclude_on_own.ensures.concludes

pub returns-in-Ok-None-clause-concludes : goal.returns-in-Ok-None-clause-concludes
returns-in-Ok-None-clause-concludes g c asked asks = absurd (cc (c.in-Ok-None.ensures.listed asked asks, c.in-Ok-None.field-0-is))

pub returns-in-Err-clause-concludes : goal.returns-in-Err-clause-concludes
returns-in-Err-clause-concludes g c asked asks = own-concludes-none c.end_as-in-Err.result c.end_as-in-Err.ensures _ _ _ _ _ _ _ asked
