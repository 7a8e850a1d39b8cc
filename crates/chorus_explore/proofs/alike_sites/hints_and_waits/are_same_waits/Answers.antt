use Rattle.std.proofs.Common.{refl, ◌≡◌, Some, sym, ◌∙◌, subst, arith}
use Rattle.place_unsettled.specs.declared.wait.Key.{Key}
use Rattle.place_unsettled.specs.Queues.{queue, key_at}
use Rattle.chorus_explore.proofs.AlikeSites.Kept.{same-queues, from-some}
use Rattle.chorus_explore.proofs.AlikeSites.Lists.{below-next}
use Rattle.chorus_explore.proofs.alike_sites.hints_and_waits.are_same_waits.Goals as goal

pub returns-in_default : goal.returns-in_default
returns-in_default c = λ e.
    same-queues c.args.one.now c.args.other.now c.loop-at.at c.loop-at.invariant.0 c.loop-at.invariant.1
    (sym c.key_at.ensures ∙ c.in_default.is) (c.is_past-past.ensures e)

pub loop-at-preserved : goal.loop-at-preserved
loop-at-preserved c =
    let rows = c.args.one.now in
    let others = c.args.other.now in
    let here = sym c.key_at.ensures ∙ c.in-Some.is in
    let keys = below-next (λ i. key_at rows i ≡ key_at others i) c.loop-at.at c.loop-at.invariant.0 (here ∙ sym (c.if-not-is_same_key_at.ensures refl)) in
    let same = below-next (λ i. (k : Key) → key_at rows i ≡ Some k → queue rows k ≡ queue others k) c.loop-at.at c.loop-at.invariant.1
    (λ k f. subst (λ (l : Key). queue rows l ≡ queue others l) (from-some c.in-Some.key k (sym here ∙ f)) (c.if-not-is_same_queue.ensures refl)) in
    ((λ i l. keys i (omega (arith, l))), (λ i l. same i (omega (arith, l))))
