use Rattle.std.proofs.Common.{◌≡◌, ◌+◌, List, length, Some, slice_get, sym, ◌∙◌, ap, subst, arith}
use Rattle.chorus_ui.specs.Layout.{places}
use Rattle.chorus_calls.specs.Callers.{Seated}
use Rattle.chorus_place.specs.Calls.{Place}
use Rattle.law_explore.specs.Alike.{CallerAlike}
use Rattle.chorus_explore.specs.AlikeSites.Places.{SamePlace}
use Rattle.chorus_explore.proofs.AlikeSites.Lists.{below-next}
use Rattle.chorus_explore.proofs.AlikeSites.Networks.{read-place, read-alike, as-many, nets-alike}
use Rattle.chorus_explore.proofs.alike_sites.sites.are_alike.Goals as goal

pub is_same_place-requires-clause-layout : goal.is_same_place-requires-clause-layout
is_same_place-requires-clause-layout c =
    let s = c.args.one.now in
    let t = c.args.other.now in
    let v = c.places-places.ensures.value in
    let w = c.places-others.ensures.value in
    let n = ap length v ∙ as-many s t c.requires c.places-places.ensures.kept c.places-others.ensures.kept ∙ sym (ap length w) in
    let lt = c.loop-at-test.true in
    let p = read-place s c.places-places.result.now c.loop-at.at c.index-places-at.result v c.places-places.ensures.kept lt c.index-places-at.is in
    let q = read-place t c.places-others.result.now c.loop-at.at c.index-others-at.result w c.places-others.ensures.kept (omega (arith, lt, n)) c.index-others-at.is in
    q.layout ∙ c.requires ∙ sym p.layout

pub is_same_place-requires-clause-number : goal.is_same_place-requires-clause-number
is_same_place-requires-clause-number c =
    let s = c.args.one.now in
    let t = c.args.other.now in
    let v = c.places-places.ensures.value in
    let w = c.places-others.ensures.value in
    let n = ap length v ∙ as-many s t c.requires c.places-places.ensures.kept c.places-others.ensures.kept ∙ sym (ap length w) in
    let lt = c.loop-at-test.true in
    let p = read-place s c.places-places.result.now c.loop-at.at c.index-places-at.result v c.places-places.ensures.kept lt c.index-places-at.is in
    let q = read-place t c.places-others.result.now c.loop-at.at c.index-others-at.result w c.places-others.ensures.kept (omega (arith, lt, n)) c.index-others-at.is in
    q.number ∙ sym p.number

pub is_same_place-requires-clause-lists : goal.is_same_place-requires-clause-lists
is_same_place-requires-clause-lists c =
    let s = c.args.one.now in
    let v = c.places-places.ensures.value in
    let lt = c.loop-at-test.true in
    let p = read-place s c.places-places.result.now c.loop-at.at c.index-places-at.result v c.places-places.ensures.kept lt c.index-places-at.is in
    p.lists ∙ ap (λ l. places l + 1) (sym p.layout)

pub is_same_place-requires-clause-others : goal.is_same_place-requires-clause-others
is_same_place-requires-clause-others c =
    let s = c.args.one.now in
    let t = c.args.other.now in
    let v = c.places-places.ensures.value in
    let w = c.places-others.ensures.value in
    let n = ap length v ∙ as-many s t c.requires c.places-places.ensures.kept c.places-others.ensures.kept ∙ sym (ap length w) in
    let lt = c.loop-at-test.true in
    let p = read-place s c.places-places.result.now c.loop-at.at c.index-places-at.result v c.places-places.ensures.kept lt c.index-places-at.is in
    let q = read-place t c.places-others.result.now c.loop-at.at c.index-others-at.result w c.places-others.ensures.kept (omega (arith, lt, n)) c.index-others-at.is in
    q.lists ∙ ap (λ l. places l + 1) (c.requires ∙ sym p.layout)

pub loop-at-preserved : goal.loop-at-preserved
loop-at-preserved c =
    let s = c.args.one.now in
    let t = c.args.other.now in
    let ps = c.places-places.result.now in
    let qs = c.places-others.result.now in
    let v = c.places-places.ensures.value in
    let w = c.places-others.ensures.value in
    let n = ap length v ∙ as-many s t c.requires c.places-places.ensures.kept c.places-others.ensures.kept ∙ sym (ap length w) in
    let lt = c.loop-at-test.true in
    let here = read-alike c.args.asks ps qs c.loop-at.at c.index-places-at.result c.index-others-at.result lt (omega (arith, lt, n)) c.index-places-at.is c.index-others-at.is
    (c.in_ok-is_same_place.ensures (grind (arith, c.if-not-branch.false))) in
    let next = below-next (λ i. (p q : Place) → slice_get s.places i ≡ Some p → slice_get t.places i ≡ Some q → SamePlace c.args.asks p q) c.loop-at.at c.loop-at.invariant
    (λ p q e f. here p q (ap (λ (xs : List Place). slice_get xs c.loop-at.at) v ∙ e) (ap (λ (xs : List Place). slice_get xs c.loop-at.at) w ∙ f)) in
    λ i l. next i (omega (arith, l))

pub returns : goal.returns
returns c = λ e.
    let s = c.args.one.now in
    let t = c.args.other.now in
    let n = ap length c.places-places.ensures.value in
    nets-alike c.args.asks c.args.scripts s t c.requires c.places-places.ensures.kept c.places-others.ensures.kept
    (λ i l. c.loop-at.invariant i (let f = c.loop-at-test.false in omega (arith, l, f, n)))
    (λ k low high.
    subst (λ (ws : List Seated). CallerAlike (slice_get ws k) (slice_get t.callers k)) c.callers.ensures
    (subst (λ (vs : List Seated). CallerAlike (slice_get c.callers.result.now k) (slice_get vs k)) c.callers-2.ensures
    (c.are_same_callers.ensures e k low (let f = c.from.ensures in omega (arith, high, f)))))
