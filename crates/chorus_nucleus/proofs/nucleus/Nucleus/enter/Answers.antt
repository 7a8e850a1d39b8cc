use Rattle.chorus_nucleus.proofs.Called.{place-is}
use Rattle.chorus_nucleus.proofs.Joined.{is-there}
use Rattle.chorus_nucleus.proofs.Arriving.{kept-keeper, entered}
use Rattle.chorus_nucleus.proofs.nucleus.Nucleus.enter.Goals as goal

pub returns-in-Ok-clause-keeper : goal.returns-in-Ok-clause-keeper
returns-in-Ok-clause-keeper c =
    let n = c.args.self.now in
    let old = c.args.pass.now in
    let low = (place-is n.layout c.in-Some.home c.in-Some.ensures.in_layout).0 in
    kept-keeper n old c.admit.new.pass c.in-Ok.turner c.requires.pass c.requires.keeper c.admit.ensures.pass c.in-Ok.ensures.ok c.in-Some.home low c.take_reader-reader.new.spare c.take_reader-reader.result c.take_reader-reader.ensures

pub returns-in-Ok-clause-ok : goal.returns-in-Ok-clause-ok
returns-in-Ok-clause-ok c =
    let n = c.args.self.now in
    let old = c.args.pass.now in
    let low = (place-is n.layout c.in-Some.home c.in-Some.ensures.in_layout).0 in
    let there = is-there n.layout c.args.actor c.home.result c.in-Some.home c.home.ensures.value c.in-Some.is in
    entered n old c.admit.new.pass c.in-Ok.turner c.requires.pass c.requires.keeper c.admit.ensures.pass c.in-Ok.ensures.ok c.in-Some.home low c.take_reader-reader.new.spare c.take_reader-reader.result c.take_reader-reader.ensures
    c.args.actor c.seat.result c.last-last.result c.new-caller.result c.requires.kind there.0 there.1 c.new-caller.ensures c.seat.ensures c.last-last.ensures c.new-spare.result c.new-spare.ensures.items
