use Rattle.std.proofs.Common.{◌++◌, ◌∷◌, [], sym, ◌∙◌, ap, arith}
use Rattle.std.proofs.lemmas.List.{append-nil}
use Rattle.place_outbox.specs.Waiting.{count, after_next}
use Rattle.chorus_net.specs.Closing.{flat}
use Rattle.chorus_net.proofs.Parts.{flat-next, count-next, flat-none, one-more}
use Rattle.chorus_net.proofs.closing.take_packets.Goals as goal

pub push_reserved-requires : goal.push_reserved-requires
push_reserved-requires c =
    let less = count-next c.loop-packet.out.lists c.in-Some.packet (sym c.pop.ensures.value ∙ c.in-Some.is) in
    let room = c.loop-packet.invariant.room in
    omega (arith, less, room)

pub loop-packet-smaller : goal.loop-packet-smaller
loop-packet-smaller c =
    let less = count-next c.loop-packet.out.lists c.in-Some.packet (sym c.pop.ensures.value ∙ c.in-Some.is) in
    let same = ap count c.pop.ensures.lists in
    omega (arith, less, same)

pub loop-packet-preserved : goal.loop-packet-preserved
loop-packet-preserved c =
    let i = c.loop-packet.invariant in
    let given = sym c.pop.ensures.value ∙ c.in-Some.is in
    let less = count-next c.loop-packet.out.lists c.in-Some.packet given in
    let same = ap count c.pop.ensures.lists in
    let room = i.room in
    let cap = c.push_reserved.ensures.capacity in
    let len = c.push_reserved.ensures.len in
    let old = i.capacity in
    record {
      items = ap (λ ls. c.push_reserved.new.self.items ++ flat ls) c.pop.ensures.lists
          ∙ one-more c.loop-packet.rest.items (c.in-Some.packet ∷ []) (flat (after_next c.loop-packet.out.lists)) _
          (ap (λ xs. c.loop-packet.rest.items ++ xs) (sym (flat-next c.loop-packet.out.lists c.in-Some.packet given)) ∙ i.items)
          c.push_reserved.new.self.items c.push_reserved.ensures.items;
      room = omega (arith, less, same, room, cap, len);
      capacity = cap ∙ old;
    }

pub returns-clause-items : goal.returns-clause-items
returns-clause-items c =
    let none = flat-none c.loop-packet.out.lists (sym c.pop.ensures.value ∙ c.in_default.is) in
    sym (ap (λ xs. c.loop-packet.rest.items ++ xs) none ∙ append-nil c.loop-packet.rest.items) ∙ c.loop-packet.invariant.items
