use Rattle.std.proofs.Common.{subst, sym}
use Rattle.chorus_place.specs.Calls.{IsAtRest}
use Rattle.chorus_place.proofs.Bounded.{back-at-rest}
use Rattle.chorus_place.proofs.place.Place.put_back.Goals as goal

pub invariant_of-self : goal.invariant_of-self
invariant_of-self c =
    let done = c.put_back.ensures in
    let rest = subst IsAtRest (sym c.deref_mut.ensures.value) c.self.invariant in
    back-at-rest c.args.to c.args.packet c.deref_mut.result.now c.put_back.new.self c.requires.ranges rest done.puts done.state done.lists
