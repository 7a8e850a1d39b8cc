use Rattle.std.proofs.Common.{◌≡◌, sym, ◌∙◌, inl, arith}
use Rattle.chorus_serve.proofs.Flowing.{nothing-to, pushes-on, full-more}
use Rattle.chorus_serve.proofs.pushing.push_all.Goals as goal

pub returns-else-waiting-gt0-clause-emptied : goal.returns-else-waiting-gt0-clause-emptied
returns-else-waiting-gt0-clause-emptied g c =
    let none : c.waiting.result ≡ 0 = omega arith in
    λ p o. inl (nothing-to p c.loop-to.place.out.lists (sym c.waiting.ensures ∙ none))

pub returns-in_err-push_other-clause-pushes : goal.returns-in_err-push_other-clause-pushes
returns-in_err-push_other-clause-pushes g c =
    pushes-on c.args.place.now c.loop-to.place c.push_other.new.place (g.E.Ends.links c.args.ends.now) (g.E.Ends.links c.loop-to.ends) (g.E.Ends.links c.push_other.new.ends)
    c.loop-to.invariant.pushes c.push_other.ensures.pushes

pub loop-to-preserved : goal.loop-to-preserved
loop-to-preserved g c =
    let h = c.loop-to.invariant in
    let first = h.first in
    let k = g.E.Ends.links c.args.ends.now in
    let l = g.E.Ends.links c.loop-to.ends in
    let m = g.E.Ends.links c.push_other.new.ends in
    record {
      pushes = pushes-on c.args.place.now c.loop-to.place c.push_other.new.place k l m h.pushes c.push_other.ensures.pushes;
      count = h.count;
      few = h.few;
      first = omega (arith, first);
      full = full-more c.loop-to.to c.args.place.now c.loop-to.place c.push_other.new.place k l m h.pushes c.push_other.ensures.pushes h.full c.in_ok-push_other.ensures.emptied;
    }
