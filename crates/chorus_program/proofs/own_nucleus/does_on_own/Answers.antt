use Rattle.std.proofs.Common.{Some, inr}
use Rattle.chorus_program.proofs.Doing.{on-started}
use Rattle.chorus_program.proofs.own_nucleus.does_on_own.Goals as goal

pub returns-in-Ok-clause-does : goal.returns-in-Ok-clause-does
returns-in-Ok-clause-does g c =
    on-started c.does.result _ _ _ _ _ _ _ _ _ c.args.asked (Some c.in-Some.layout) c.in-Some.ensures
    (inr (c.in-Ok.nucleus, c.in-Ok.ensures.layout, c.does.ensures.does))
