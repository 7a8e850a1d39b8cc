use Rattle.std.proofs.Common.{◌≡◌, ◌+◌, ap, ◌∙◌, arith, length, replicate, None}
use Rattle.std.proofs.lemmas.List.{length-replicate}
use Rattle.place_outbox.proofs.Outboxes.{new-outbox, new-lists}
use Rattle.place_outbox.proofs.outbox.Outbox.with_places.Goals as goal

pub push_reserved-requires : goal.push_reserved-requires
push_reserved-requires c =
    let i = c.loop-place.invariant in
    let e : length c.loop-place.fronts.items ≡ c.loop-place._place = ap length i.0 ∙ length-replicate c.loop-place._place None in
    let t = c.loop-place-test.true in
    let f = c.from-place-end.ensures in
    let o = c.loop-place.fronts.ok in
    let r = i.1 in
    omega (arith, e, t, f, o, r)

pub invariant_of-result : goal.invariant_of-result
invariant_of-result c =
    let n : c.loop-place._place ≡ c.args.places + 1 = (let t = c.loop-place-test.false in let f = c.from-place-end.ensures in let a = c.loop-place.auto._place-end in omega (arith, t, f, a)) in
    new-outbox c.loop-place.fronts.items c.in_ok-with_places.field-0 c.args.places (c.loop-place.invariant.0 ∙ ap (λ k. replicate k None) n) c.in_ok-with_places.ensures.lists c.in_ok-with_places.ensures.puts

pub returns-clause-lists : goal.returns-clause-lists
returns-clause-lists c =
    let n : c.loop-place._place ≡ c.args.places + 1 = (let t = c.loop-place-test.false in let f = c.from-place-end.ensures in let a = c.loop-place.auto._place-end in omega (arith, t, f, a)) in
    new-lists c.loop-place.fronts.items c.in_ok-with_places.field-0 c.args.places (c.loop-place.invariant.0 ∙ ap (λ k. replicate k None) n) c.in_ok-with_places.ensures.lists
