use Rattle.std.proofs.Common.{◌≡◌, ◌+◌, ◌<◌, ◌≤◌, suc, ap, sym, ◌∙◌, arith, length, drop}
use Rattle.std.proofs.lemmas.List.{at_drop_all}
use Rattle.place_outbox.specs.Waiting.{first_place}
use Rattle.place_outbox.proofs.Fronts.{first-later}
use Rattle.place_outbox.proofs.Outboxes.{within}
use Rattle.place_outbox.proofs.outbox.Outbox.first_place.Goals as goal

pub is_filled-requires : goal.is_filled-requires
is_filled-requires c =
    let w = within _ _ _ c.loop-place.place _ c.self.invariant (ap (λ v. v.lists) c.self.view_is) in
    let r = c.loop-place-test.true in
    let e = c.len-place-end.ensures in
    let o = c.self.inside.fronts.ok in
    omega (arith, w, r, e, o)

pub loop-place-preserved : goal.loop-place-preserved
loop-place-preserved c =
    let w = within _ _ _ c.loop-place.place _ c.self.invariant (ap (λ v. v.lists) c.self.view_is) in
    let r = c.loop-place-test.true in
    let e = c.len-place-end.ensures in
    let o = c.self.inside.fronts.ok in
    let l : c.loop-place.place < length c.args.self.now.lists = omega (arith, w, r, e, o) in
    let f = first-later c.args.self.now.lists c.loop-place.place l (sym c.is_filled.ensures ∙ c.if-is_filled.false) in
    let s : suc c.loop-place.place ≡ c.loop-place.place + 1 = omega arith in
    let g = ap (λ p. first_place (drop p c.args.self.now.lists)) s in
    let i = c.loop-place.invariant in
    omega (arith, f, g, i)

pub returns : goal.returns
returns c =
    let w = within _ _ _ c.loop-place.place _ c.self.invariant (ap (λ v. v.lists) c.self.view_is) in
    let r = c.loop-place-test.false in
    let e = c.len-place-end.ensures in
    let o = c.self.inside.fronts.ok in
    let n = c.len.ensures in
    let a = c.loop-place.auto.place-end in
    let l : length c.args.self.now.lists ≤ c.loop-place.place = omega (arith, w, r, e, o) in
    let f = at_drop_all first_place c.args.self.now.lists c.loop-place.place l in
    let i = c.loop-place.invariant in
    omega (arith, f, i, n, r, a, e)
