use Rattle.std.proofs.Common.{List, length, sym, subst, ap, ◌∙◌, arith}
use Rattle.std.proofs.lemmas.List.{length_push}
use Rattle.chorus_place.specs.Calls.{Place}
use Rattle.chorus_net.specs.Starting.{HaveStarted}
use Rattle.chorus_net.proofs.Fresh.{one-more}
use Rattle.chorus_net.proofs.starting.start_places.Goals as goal

pub loop-number-preserved : goal.loop-number-preserved
loop-number-preserved c =
    let i = c.loop-number.invariant in
    let n = ap (λ (ps : List Place). length ps) c.push_reserved.ensures.items ∙ length_push c.loop-number.places.items c.in_ok-start.field-0 in
    let a = i.all in
    let t = c.loop-number-test.true in
    let r = i.room in
    let k = c.push_reserved.ensures.capacity in
    record {
      started = subst (HaveStarted c.args.layout 1) (sym c.push_reserved.ensures.items)
          (one-more c.args.layout 1 c.loop-number.number c.loop-number.places.items c.in_ok-start.field-0 i.started (omega (arith, a))
          (record { state = c.in_ok-start.ensures.state; waits = c.in_ok-start.ensures.out }));
      all = omega (arith, n, a);
      most = omega (arith, t);
      room = omega (arith, r, k);
      shape = λ h. c.in_ok-start.ensures.layout;
    }
