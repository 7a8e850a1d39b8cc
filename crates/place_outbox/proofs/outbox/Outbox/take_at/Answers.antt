use Rattle.std.proofs.Common.{◌≡◌, ◌+◌, ◌<◌, ◌≤◌, ap, sym, ◌∙◌, arith, length, get_or, set, Some, None, slice_get}
use Rattle.std.proofs.lemmas.List.{length-set}
use Rattle.place_outbox.specs.Waiting.{list_to, without_first, count}
use Rattle.place_outbox.specs.Fronts.{with_fronts, fronts}
use Rattle.place_outbox.proofs.Lists.{nothing-first}
use Rattle.place_outbox.proofs.Fronts.{front-list, front-taken, front-less, none-list, none-taken, free-at, none-at, count-without, count-fronts}
use Rattle.place_outbox.proofs.Outboxes.{within, past, here, some-outbox, none-outbox, still-none, if-some}
use Rattle.place_outbox.proofs.outbox.Outbox.take_at.Goals as goal

pub returns-then-place-len-clause-value : goal.returns-then-place-len-clause-value
returns-then-place-len-clause-value c =
    let w = within _ _ _ c.args.place _ c.self.invariant (ap (λ v. v.lists) c.self.view_is) in
    let l : length c.args.self.now.lists ≤ c.args.place = (let a = c.if-place-len.true in let b = c.len.ensures in let d = c.self.inside.fronts.ok in omega (arith, w, a, b, d)) in
    ap (λ l. slice_get l 0) (sym (past c.args.self.now.lists c.args.place l))

pub returns-then-place-len-clause-lists : goal.returns-then-place-len-clause-lists
returns-then-place-len-clause-lists c =
    let w = within _ _ _ c.args.place _ c.self.invariant (ap (λ v. v.lists) c.self.view_is) in
    let l : length c.args.self.now.lists ≤ c.args.place = (let a = c.if-place-len.true in let b = c.len.ensures in let d = c.self.inside.fronts.ok in omega (arith, w, a, b, d)) in
    nothing-first c.args.self.now.lists c.args.place (past c.args.self.now.lists c.args.place l)

pub overflow_sub-self : goal.overflow_sub-self
overflow_sub-self c =
    let os = c.self.inside.fronts.items in
    let l : c.args.place < length os = (let a = c.if-place-len.false in let b = c.len.ensures in let d = c.self.inside.fronts.ok in omega (arith, a, b, d)) in
    let e = here os c.args.place c.index_mut.result.now (Some c.in-Some.packet) l c.index_mut.ensures.value (sym c.take.ensures.value ∙ c.in-Some.is) in
    let a = front-less os c.args.place c.in-Some.packet e in
    let b = c.self.invariant.counted in
    omega (arith, a, b)

pub invariant_of-self : goal.invariant_of-self
invariant_of-self c =
    let os = c.self.inside.fronts.items in
    let l : c.args.place < length os = (let a = c.if-place-len.false in let b = c.len.ensures in let d = c.self.inside.fronts.ok in omega (arith, a, b, d)) in
    let e = here os c.args.place c.index_mut.result.now (Some c.in-Some.packet) l c.index_mut.ensures.value (sym c.take.ensures.value ∙ c.in-Some.is) in
    some-outbox os c.self.inside.pool c.self.inside.back c.args.place c.in-Some.packet c.take.new.self c.self.invariant e c.take.ensures.after

pub returns-in-Some-clause-value : goal.returns-in-Some-clause-value
returns-in-Some-clause-value c =
    let os = c.self.inside.fronts.items in
    let l : c.args.place < length os = (let a = c.if-place-len.false in let b = c.len.ensures in let d = c.self.inside.fronts.ok in omega (arith, a, b, d)) in
    let e = here os c.args.place c.index_mut.result.now (Some c.in-Some.packet) l c.index_mut.ensures.value (sym c.take.ensures.value ∙ c.in-Some.is) in
    ap (λ l. slice_get l 0) (sym (front-list os c.self.inside.pool.lists c.args.place c.in-Some.packet c.self.invariant.places e))
    ∙ ap (λ v. slice_get (list_to c.args.place v.lists) 0) c.self.view_is

pub returns-in-Some-clause-lists : goal.returns-in-Some-clause-lists
returns-in-Some-clause-lists c =
    let os = c.self.inside.fronts.items in
    let l : c.args.place < length os = (let a = c.if-place-len.false in let b = c.len.ensures in let d = c.self.inside.fronts.ok in omega (arith, a, b, d)) in
    let e = here os c.args.place c.index_mut.result.now (Some c.in-Some.packet) l c.index_mut.ensures.value (sym c.take.ensures.value ∙ c.in-Some.is) in
    ap (λ o. with_fronts (set os c.args.place o) c.self.inside.pool.lists) c.take.ensures.after
    ∙ front-taken os c.self.inside.pool.lists c.args.place c.in-Some.packet c.self.invariant.places e
    ∙ ap (λ v. without_first c.args.place v.lists) c.self.view_is

pub returns-in-Some-clause-back : goal.returns-in-Some-clause-back
returns-in-Some-clause-back c =
    let os = c.self.inside.fronts.items in
    let p = c.args.place in
    let l : p < length os = (let a = c.if-place-len.false in let b = c.len.ensures in let d = c.self.inside.fronts.ok in omega (arith, a, b, d)) in
    let e = here os p c.index_mut.result.now (Some c.in-Some.packet) l c.index_mut.ensures.value (sym c.take.ensures.value ∙ c.in-Some.is) in
    let m : p < length (set os p c.take.new.self) = (let s = length-set os p c.take.new.self in omega (arith, l, s)) in
    let n : get_or (set os p c.take.new.self) p None ≡ None = ap (λ o. get_or (set os p o) p None) c.take.ensures.after ∙ none-at os p in
    let i = c.self.invariant in
    let k : count (with_fronts (set os p c.take.new.self) c.self.inside.pool.lists) ≡ fronts (set os p c.take.new.self) + count c.self.inside.pool.lists =
    count-fronts (set os p c.take.new.self) c.self.inside.pool.lists (length-set os p c.take.new.self ∙ i.places) in
    let f : fronts (set os p c.take.new.self) ≡ fronts (set os p None) = ap (λ o. fronts (set os p o)) c.take.ensures.after in
    let g = front-less os p c.in-Some.packet e in
    let a = i.at_most in
    record { free = free-at (set os p c.take.new.self) p m n; fewer = omega (arith, k, f, g, a) }

pub invariant_of-self-2 : goal.invariant_of-self-2
invariant_of-self-2 c =
    let os = c.self.inside.fronts.items in
    let l : c.args.place < length os = (let a = c.if-place-len.false in let b = c.len.ensures in let d = c.self.inside.fronts.ok in omega (arith, a, b, d)) in
    let e = here os c.args.place c.index_mut.result.now None l c.index_mut.ensures.value (sym c.take.ensures.value ∙ c.in_default.is) in
    none-outbox os c.self.inside.pool c.take-2.new.self c.self.inside.back c.args.place c.take.new.self c.self.invariant e c.take.ensures.after c.take-2.ensures.lists c.take-2.ensures.puts

pub returns-clause-value : goal.returns-clause-value
returns-clause-value c =
    let os = c.self.inside.fronts.items in
    let l : c.args.place < length os = (let a = c.if-place-len.false in let b = c.len.ensures in let d = c.self.inside.fronts.ok in omega (arith, a, b, d)) in
    let e = here os c.args.place c.index_mut.result.now None l c.index_mut.ensures.value (sym c.take.ensures.value ∙ c.in_default.is) in
    c.take-2.ensures.value
    ∙ ap (λ l. slice_get l 0) (sym (none-list os c.self.inside.pool.lists c.args.place c.self.invariant.places e))
    ∙ ap (λ v. slice_get (list_to c.args.place v.lists) 0) c.self.view_is

pub returns-clause-lists : goal.returns-clause-lists
returns-clause-lists c =
    let os = c.self.inside.fronts.items in
    let l : c.args.place < length os = (let a = c.if-place-len.false in let b = c.len.ensures in let d = c.self.inside.fronts.ok in omega (arith, a, b, d)) in
    let e = here os c.args.place c.index_mut.result.now None l c.index_mut.ensures.value (sym c.take.ensures.value ∙ c.in_default.is) in
    ap (λ xs. with_fronts xs c.take-2.new.self.lists) (still-none os c.args.place c.take.new.self e c.take.ensures.after)
    ∙ ap (with_fronts os) c.take-2.ensures.lists
    ∙ none-taken os c.self.inside.pool.lists c.args.place e
    ∙ ap (λ v. without_first c.args.place v.lists) c.self.view_is

pub returns-clause-back : goal.returns-clause-back
returns-clause-back c =
    let os = c.self.inside.fronts.items in
    let p = c.args.place in
    let l : p < length os = (let a = c.if-place-len.false in let b = c.len.ensures in let d = c.self.inside.fronts.ok in omega (arith, a, b, d)) in
    let e = here os p c.index_mut.result.now None l c.index_mut.ensures.value (sym c.take.ensures.value ∙ c.in_default.is) in
    let same = still-none os p c.take.new.self e c.take.ensures.after in
    let m : p < length (set os p c.take.new.self) = (let s = length-set os p c.take.new.self in omega (arith, l, s)) in
    let n : get_or (set os p c.take.new.self) p None ≡ None = ap (λ xs. get_or xs p None) same ∙ e in
    let i = c.self.invariant in
    if-some c.take-2.result _ (λ v given.
    let t : slice_get (list_to p c.self.inside.pool.lists) 0 ≡ Some v = sym c.take-2.ensures.value ∙ given in
    let w = count-without c.self.inside.pool.lists p v t in
    let x : count c.take-2.new.self.lists ≡ count (without_first p c.self.inside.pool.lists) = ap count c.take-2.ensures.lists in
    let y : length c.take-2.new.self.lists ≡ length c.self.inside.pool.lists = ap length c.take-2.ensures.lists ∙ length-set c.self.inside.pool.lists p _ in
    let k : count (with_fronts os c.take-2.new.self.lists) ≡ fronts os + count c.take-2.new.self.lists =
    count-fronts os c.take-2.new.self.lists (i.places ∙ sym y) in
    let z : count (with_fronts (set os p c.take.new.self) c.take-2.new.self.lists) ≡ count (with_fronts os c.take-2.new.self.lists) = ap (λ xs. count (with_fronts xs c.take-2.new.self.lists)) same in
    let a = i.at_most in
    let q = c.take-2.ensures.puts in
    record { free = free-at (set os p c.take.new.self) p m n; fewer = omega (arith, w, x, k, z, a, q) })
