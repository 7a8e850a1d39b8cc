use Rattle.std.proofs.Common.{refl, sym, ◌∙◌, arith}
use Rattle.place_unsettled.specs.Queues.{queue}
use Rattle.chorus_explore.proofs.AlikeSites.Lists.{same-up-to}
use Rattle.chorus_explore.proofs.alike_sites.hints_and_waits.is_same_queue.Goals as goal

pub returns : goal.returns
returns c = λ e.
    let q = queue c.args.one.now c.args.key.now in
    let p = queue c.args.other.now c.args.key.now in
    let tried = sym c.tried.ensures ∙ (c.if-not-is_same_number.ensures refl) ∙ c.tried-2.ensures in
    let waits = same-up-to q.waits p.waits c.loop-at.at
    (let a = c.if-len.false in let b = c.len.ensures.len in let d = c.len-2.ensures.len in omega (arith, a, b, d))
    (let t = c.loop-at-test.false in let n = c.len-at-end.ensures.len in omega (arith, t, n))
    c.loop-at.invariant in
    λ i. record { tried = tried i; waits = waits i }
