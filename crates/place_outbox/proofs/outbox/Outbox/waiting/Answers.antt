use Rattle.std.proofs.Common.{arith, ap}
use Rattle.place_outbox.proofs.Outboxes.{waits}
use Rattle.place_outbox.proofs.outbox.Outbox.waiting.Goals as goal

pub overflow_add-result : goal.overflow_add-result
overflow_add-result c =
    let i = c.self.invariant in
    let a = i.counted in
    let b = i.at_most in
    let d = i.fits in
    let w = c.waiting.ensures in
    omega (arith, a, b, d, w)

pub returns : goal.returns
returns c =
    let a = waits _ _ _ _ c.self.invariant (ap (λ v. v.lists) c.self.view_is) in
    let w = c.waiting.ensures in
    omega (arith, a, w)
