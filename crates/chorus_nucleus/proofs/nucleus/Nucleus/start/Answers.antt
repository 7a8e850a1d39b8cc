use Rattle.std.proofs.Common.{refl}
use Rattle.chorus_nucleus.proofs.Beginning.{fresh-journals}
use Rattle.chorus_nucleus.proofs.Opening.{opened}
use Rattle.chorus_nucleus.proofs.nucleus.Nucleus.start.Goals as goal

pub start-requires-clause-fresh : goal.start-requires-clause-fresh
start-requires-clause-fresh g c = fresh-journals c.args.layout c.in_ok-sites.sites.items c.in_ok-sites.spare.items c.in_ok-sites.ensures

pub returns-in-Ok : goal.returns-in-Ok
returns-in-Ok g c =
    opened c.args.layout c.sites-sites.ensures.layout c.in_ok-sites.sites.items c.in_ok-sites.spare.items c.in_ok-sites.ensures _ refl c.in-Ok.ensures.ok.0 c.in-Ok.turner c.in-Ok.ensures.ok.1 c.in-Ok.ensures.ok.2
    c.first_actor.result c.first_actor.ensures c.new.result c.new.ensures c.take_reader-reader.new.spare c.take_reader-reader.result c.take_reader-reader.ensures
