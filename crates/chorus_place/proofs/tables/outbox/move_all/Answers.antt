use Rattle.std.proofs.Common.{◌++◌, ◌∙◌, ap, length, arith}
use Rattle.std.specs.Prelude.{option_to_list}
use Rattle.chorus_place.proofs.PlaceTables.SentPackets.{sent-first, same-places, rest-for}
use Rattle.chorus_place.proofs.tables.outbox.move_all.Goals as goal

pub loop-outgoing-preserved : goal.loop-outgoing-preserved
loop-outgoing-preserved c =
    let xs = c.loop-outgoing.puts.items in
    let more = c.pop_front.new.self.items in
    let x = c.in-Some.outgoing in
    let kept = c.loop-outgoing.invariant in
    let rest = c.pop_front.ensures.items ∙ ap (λ o. option_to_list o ++ more) c.in-Some.is in
    let same = same-places c.loop-outgoing.out.lists c.put.new.self.lists x c.put.ensures.lists in
    let fewer = ap (λ ys. length ys) rest in
    let room = kept.2 in
    let count = kept.3 in
    let left = kept.4 in
    let spare = c.put.ensures.spare in
    let puts = c.put.ensures.puts in (
      sent-first xs more c.loop-outgoing.out.lists c.put.new.self.lists x rest c.put.ensures.lists ∙ kept.0,
      rest-for c.loop-outgoing.out c.put.new.self xs more x kept.1 rest same,
      omega (arith, fewer, room, spare),
      omega (arith, fewer, count, puts),
      omega (arith, fewer, left, spare),
      c.pop_front.ensures.capacity ∙ kept.5,
    )
