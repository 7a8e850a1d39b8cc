use Rattle.std.proofs.Common.{ℕ, zero, suc, ◌≡◌, ◌≢◌, ◌-◌, ◌<◌, ◌≤◌, List, ◌∷◌, length, Some, None, slice_get, ap, sym, ◌∙◌, refl, arith}
use Rattle.chorus_entry.specs.declared.packet.Packet.{Packet}
use Rattle.place_outbox.specs.Fronts.{with_fronts}
use Rattle.place_outbox.specs.Waiting.{list_to}
use Rattle.place_outbox.proofs.Fronts.{front-list, none-list}
use Rattle.place_outbox.proofs.Outboxes.{within, past, here}
use Rattle.place_outbox.proofs.outbox.Outbox.get.Goals as goal

behind-first : (v : Packet) (xs : List Packet) (i : ℕ) → i ≢ 0 → slice_get xs (i - 1) ≡ slice_get (v ∷ xs) i
behind-first v xs zero n = absurd (n refl)
behind-first v xs (suc i) n = let e : suc i - 1 ≡ i = omega arith in ap (slice_get xs) e

pub returns-then-place-len : goal.returns-then-place-len
returns-then-place-len c =
    let w = within _ _ _ c.args.place _ c.self.invariant (ap (λ v. v.lists) c.self.view_is) in
    let l : length c.args.self.now.lists ≤ c.args.place =
    (let a = c.if-place-len.true in let b = c.len.ensures in let d = c.self.inside.fronts.ok in let f = c.from-place.ensures in omega (arith, w, a, b, d, f)) in
    ap (λ l. slice_get l c.args.at) (sym (past c.args.self.now.lists c.args.place l))

pub returns-in-Some : goal.returns-in-Some
returns-in-Some c =
    let os = c.self.inside.fronts.items in
    let ls = c.self.inside.pool.lists in
    let p = c.from-place.result in
    let l : p < length os = (let a = c.if-place-len.false in let b = c.len.ensures in let d = c.self.inside.fronts.ok in omega (arith, a, b, d)) in
    let e = here os p c.index.result.now (Some c.in-Some.packet) l c.index.ensures c.in-Some.is in
    ap (slice_get (c.in-Some.packet ∷ list_to p ls)) (sym c.if-at-eq0.true)
    ∙ ap (λ l. slice_get l c.args.at) (sym (front-list os ls p c.in-Some.packet c.self.invariant.places e))
    ∙ ap (λ q. slice_get (list_to q (with_fronts os ls)) c.args.at) c.from-place.ensures
    ∙ ap (λ v. slice_get (list_to c.args.place v.lists) c.args.at) c.self.view_is

pub returns-in-Some-2 : goal.returns-in-Some-2
returns-in-Some-2 c =
    let os = c.self.inside.fronts.items in
    let ls = c.self.inside.pool.lists in
    let p = c.from-place.result in
    let l : p < length os = (let a = c.if-place-len.false in let b = c.len.ensures in let d = c.self.inside.fronts.ok in omega (arith, a, b, d)) in
    let e = here os p c.index.result.now (Some c.in-Some-2.field-0) l c.index.ensures c.in-Some-2.is in
    c.get.ensures
    ∙ behind-first c.in-Some-2.field-0 (list_to p ls) c.args.at c.if-at-eq0.false
    ∙ ap (λ l. slice_get l c.args.at) (sym (front-list os ls p c.in-Some-2.field-0 c.self.invariant.places e))
    ∙ ap (λ q. slice_get (list_to q (with_fronts os ls)) c.args.at) c.from-place.ensures
    ∙ ap (λ v. slice_get (list_to c.args.place v.lists) c.args.at) c.self.view_is

pub returns-in-None : goal.returns-in-None
returns-in-None c =
    let os = c.self.inside.fronts.items in
    let ls = c.self.inside.pool.lists in
    let p = c.from-place.result in
    let l : p < length os = (let a = c.if-place-len.false in let b = c.len.ensures in let d = c.self.inside.fronts.ok in omega (arith, a, b, d)) in
    let e = here os p c.index.result.now None l c.index.ensures c.in-None.is in
    c.get-in-None.ensures
    ∙ ap (λ l. slice_get l c.args.at) (sym (none-list os ls p c.self.invariant.places e))
    ∙ ap (λ q. slice_get (list_to q (with_fronts os ls)) c.args.at) c.from-place.ensures
    ∙ ap (λ v. slice_get (list_to c.args.place v.lists) c.args.at) c.self.view_is
