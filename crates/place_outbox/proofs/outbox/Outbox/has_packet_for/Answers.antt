use Rattle.std.proofs.Common.{◌≤◌, ap, sym, arith, length}
use Rattle.place_outbox.specs.Fronts.{is_filled}
use Rattle.place_outbox.proofs.Outboxes.{within, past}
use Rattle.place_outbox.proofs.outbox.Outbox.has_packet_for.Goals as goal

pub is_filled-requires : goal.is_filled-requires
is_filled-requires c =
    let w = within _ _ _ c.args.place _ c.self.invariant (ap (λ v. v.lists) c.self.view_is) in
    let a = c.if-place-len.false in
    let b = c.len.ensures in
    let d = c.self.inside.fronts.ok in
    let e = c.from-place.ensures in
    omega (arith, w, a, b, d, e)

pub returns-then-place-len : goal.returns-then-place-len
returns-then-place-len c =
    let w = within _ _ _ c.args.place _ c.self.invariant (ap (λ v. v.lists) c.self.view_is) in
    let l : length c.args.self.now.lists ≤ c.args.place = (let a = c.if-place-len.true in let b = c.len.ensures in let d = c.self.inside.fronts.ok in let e = c.from-place.ensures in omega (arith, w, a, b, d, e)) in
    ap is_filled (sym (past c.args.self.now.lists c.args.place l))
