use Rattle.chorus_nucleus.proofs.Ended.{ended}
use Rattle.chorus_nucleus.proofs.nucleus.Nucleus.close.Goals as goal

pub returns-in-Ok-take_sites-clause-closed : goal.returns-in-Ok-take_sites-clause-closed
returns-in-Ok-take_sites-clause-closed g c =
    ended c.args.self c.args.pass c.in-Ok.field-0 c.in-Ok.ensures.ok c.in-Ok-take_sites.field-0 c.in-Ok-take_sites.ensures c.of.result c.of.ensures.parts c.of.ensures.origin
