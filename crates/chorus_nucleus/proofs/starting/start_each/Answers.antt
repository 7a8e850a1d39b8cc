use Rattle.std.proofs.Common.{length, ◌∙◌, ap, arith}
use Rattle.std.proofs.lemmas.List.{length_push}
use Rattle.chorus_nucleus.proofs.Beginning.{reaches-last, fresh-more}
use Rattle.chorus_nucleus.proofs.starting.start_each.Goals as goal

pub start_last-requires-clause-reaches : goal.start_last-requires-clause-reaches
start_last-requires-clause-reaches g c = λ r at p other.
    let i = c.loop-number.invariant in
    let t = c.loop-number-test.true in
    let low = i.low in
    reaches-last c.args.layout c.args.ends.items c.loop-number.ends.items i.done.0 c.loop-number.number c.requires i.done.1 i.many (omega (arith, t)) low r at p other

pub loop-number-preserved : goal.loop-number-preserved
loop-number-preserved g c =
    let i = c.loop-number.invariant in
    let t = c.loop-number-test.true in
    let f = c.in-Ok.ensures in
    let n = ap length f.items ∙ length_push c.start_last.new.ends.items f.last in
    let m = ap length c.push_reserved.ensures.items ∙ length_push c.loop-number.sites.items c.in-Ok.site in
    let m2 = ap length c.push_reserved-in-Ok.ensures.items ∙ length_push c.loop-number.spare.items c.in-Ok.readers in
    let low = i.low in
    let many = i.many in
    let room = i.room in
    let rows = i.rows in
    let all = i.all in
    let kept = i.kept in
    let k = c.push_reserved.ensures.capacity in
    let k2 = c.push_reserved-in-Ok.ensures.capacity in
    record {
      low = omega (arith, low);
      many = omega (arith, many, n);
      room = omega (arith, room, k);
      rows = omega (arith, rows, k2);
      kept = omega (arith, kept, m2, t);
      all = omega (arith, all, m, t);
      done = fresh-more c.args.layout c.loop-number.number (omega (arith, t)) c.args.ends.items c.loop-number.ends.items c.start_last.new.ends.items i.done.0 f.last c.loop-number.sites.items
          c.push_reserved.new.self.items c.in-Ok.site c.loop-number.spare.items c.push_reserved-in-Ok.new.self.items c.in-Ok.readers i.done.1 f.items c.push_reserved.ensures.items c.push_reserved-in-Ok.ensures.items
          f.fresh f.readers i.done.2;
    }
