use Rattle.std.proofs.Common.{ℕ, ◌≡◌, ◌-◌, ◌<◌, ◌≤◌, List, length, set, sym, ◌∙◌, ap, subst, arith, length-set}
use Rattle.chorus_ruled_ends.specs.Ruled.{Ruled}
use Rattle.chorus_ruled_ends.specs.Linked.{LinksOne}
use Rattle.chorus_ruled_ends.proofs.Slots.{after_out, after_into, out-step, into-step, links-one}
use Rattle.chorus_ruled_ends.proofs.linking.link_one.Goals as goal

pub returns-clause-links : goal.returns-clause-links
returns-clause-links c =
    let all = c.args.all.now.items in
    let a = c.args.from in
    let b = c.args.to in
    let send = c.in_ok-send.send in
    let recv = c.in_ok-send.recv in
    let middle : List Ruled = set all (c.from.result - 1) c.set_out.new.self in
    let count = c.requires.slots.count in
    let a-in : a - 1 < length all = omega (arith, count) in
    let b-in : b - 1 < length middle = subst (λ n. b - 1 < n) (sym (length-set all (c.from.result - 1) c.set_out.new.self)) (omega (arith, count)) in
    let first : middle ≡ after_out a b send all =
    out-step a b (c.from.result - 1) c.from-2.result all c.index_mut.result.now c.set_out.new.self send (omega arith) (omega arith) a-in c.index_mut.ensures.value c.set_out.ensures in
    let second : set middle (c.from-3.result - 1) c.set_into.new.self ≡ after_into a b recv middle =
    into-step a b (c.from-3.result - 1) c.from-4.result middle c.index_mut-2.result.now c.set_into.new.self recv (omega arith) (omega arith) b-in c.index_mut-2.ensures.value c.set_into.ensures in
    subst (λ (ls : List Ruled). LinksOne a b all ls) (sym (second ∙ ap (after_into a b recv) first))
    (links-one c.args.places a b all send recv c.requires.slots c.requires.from.0 c.requires.from.1 c.requires.to.0 c.requires.to.1 c.in_ok-send.ensures.one_link.0 c.in_ok-send.ensures.one_link.1 c.in_ok-send.ensures.empty
    c.in_ok-send.ensures.counts.0 c.in_ok-send.ensures.counts.1)
