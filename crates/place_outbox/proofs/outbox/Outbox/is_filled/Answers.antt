use Rattle.std.proofs.Common.{◌≡◌, ◌<◌, ap, sym, ◌∙◌, arith, length, Some, None, true, false, Option, is_some}
use Rattle.std.proofs.lemmas.Bool.{false≢true}
use Rattle.chorus_entry.specs.declared.packet.Packet.{Packet}
use Rattle.place_outbox.specs.Waiting.{list_to}
use Rattle.place_outbox.specs.Fronts.{is_filled, fronts}
use Rattle.place_outbox.proofs.Fronts.{filled-front, none-list, no-front}
use Rattle.place_outbox.proofs.Outboxes.{within, here}
use Rattle.place_outbox.proofs.outbox.Outbox.is_filled.Goals as goal

is-some : (o : Option Packet) → is_some o ≡ true → (v : Packet) × (o ≡ Some v)
is-some None h = absurd (false≢true h)
is-some (Some v) h = (v, λ i. Some v)

is-none : (o : Option Packet) → is_some o ≡ false → o ≡ None
is-none None h = λ i. None
is-none (Some v) h = absurd (false≢true (sym h))

pub index-requires : goal.index-requires
index-requires c =
    let w = within _ _ _ c.args.place _ c.self.invariant (ap (λ v. v.lists) c.self.view_is) in
    let r = c.requires in
    let o = c.self.inside.fronts.ok in
    omega (arith, w, r, o)

pub is_filled-requires : goal.is_filled-requires
is_filled-requires c =
    let w = within _ _ _ c.args.place _ c.self.invariant (ap (λ v. v.lists) c.self.view_is) in
    let r = c.requires in
    let p = c.self.invariant.places in
    omega (arith, w, r, p)

pub is_filled-requires-else-is_some : goal.is_filled-requires-else-is_some
is_filled-requires-else-is_some c =
    let w = within _ _ _ c.args.place _ c.self.invariant (ap (λ v. v.lists) c.self.view_is) in
    let r = c.requires in
    let p = c.self.invariant.places in
    omega (arith, w, r, p)

pub returns-then-self-eq0 : goal.returns-then-self-eq0
returns-then-self-eq0 c =
    let os = c.self.inside.fronts.items in
    let i = c.self.invariant in
    let b = c.if-self-eq0.true in
    let n = i.counted in
    let f : fronts os ≡ 0 = omega (arith, b, n) in
    c.is_filled.ensures
    ∙ ap is_filled (sym (none-list os c.self.inside.pool.lists c.args.place i.places (no-front os c.args.place f)))
    ∙ ap (λ v. is_filled (list_to c.args.place v.lists)) c.self.view_is

pub returns-then-is_some : goal.returns-then-is_some
returns-then-is_some c =
    let w = within _ _ _ c.args.place _ c.self.invariant (ap (λ v. v.lists) c.self.view_is) in
    let r = c.requires in
    let l : c.args.place < length c.self.inside.fronts.items = omega (arith, w, r) in
    let s = is-some c.index.result.now (sym c.is_some.ensures ∙ c.if-is_some.true) in
    c.if-is_some.true
    ∙ filled-front c.self.inside.fronts.items c.self.inside.pool.lists c.args.place s.0 c.self.invariant.places (here c.self.inside.fronts.items c.args.place c.index.result.now (Some s.0) l c.index.ensures s.1)
    ∙ ap (λ v. is_filled (list_to c.args.place v.lists)) c.self.view_is

pub returns-else-is_some : goal.returns-else-is_some
returns-else-is_some c =
    let w = within _ _ _ c.args.place _ c.self.invariant (ap (λ v. v.lists) c.self.view_is) in
    let r = c.requires in
    let l : c.args.place < length c.self.inside.fronts.items = omega (arith, w, r) in
    let n = is-none c.index.result.now (sym c.is_some.ensures ∙ c.if-is_some.false) in
    c.is_filled-else-is_some.ensures
    ∙ ap is_filled (sym (none-list c.self.inside.fronts.items c.self.inside.pool.lists c.args.place c.self.invariant.places (here c.self.inside.fronts.items c.args.place c.index.result.now None l c.index.ensures n)))
    ∙ ap (λ v. is_filled (list_to c.args.place v.lists)) c.self.view_is
