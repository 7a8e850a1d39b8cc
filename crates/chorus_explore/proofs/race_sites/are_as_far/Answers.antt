use Rattle.std.proofs.Common.{◌≡◌, length, map, slice_get, Some, refl, sym, ◌∙◌, ap, arith}
use Rattle.std.specs.Option.{option_map}
use Rattle.std.proofs.lemmas.Option.{slice_get_read}
use Rattle.chorus_explore.proofs.AlikeSites.Lists.{below-next, get-map, length-map, same-up-to}
use Rattle.chorus_explore.specs.Tellings.{kept_of}
use Rattle.chorus_explore.proofs.race_sites.are_as_far.Goals as goal

pub loop-index-preserved : goal.loop-index-preserved
loop-index-preserved c =
    let ps = c.args.one.now in
    let qs = c.args.other.now in
    let lt = c.loop-index-test.true in
    let n : length ps ≡ length qs = (let a = c.if-one-other.false in omega (arith, a)) in
    let p = slice_get_read ps (length ps) c.loop-index.index c.index-one-index.result refl lt c.index-one-index.is in
    let q = slice_get_read qs (length qs) c.loop-index.index c.index-other-index.result refl (omega (arith, lt, n)) c.index-other-index.is in
    let next = below-next (λ i. slice_get (map kept_of ps) i ≡ slice_get (map kept_of qs) i) c.loop-index.index c.loop-index.invariant
    (get-map kept_of ps c.loop-index.index ∙ ap (option_map kept_of) p ∙ ap Some (c.if-not-is_as_far.ensures refl)
    ∙ sym (ap (option_map kept_of) q) ∙ sym (get-map kept_of qs c.loop-index.index)) in
    λ i l. next i (omega (arith, l))

pub returns : goal.returns
returns c = λ e.
    let ps = c.args.one.now in
    let qs = c.args.other.now in
    let n : length ps ≡ length qs = (let a = c.if-one-other.false in omega (arith, a)) in
    let m = length-map kept_of ps in
    same-up-to (map kept_of ps) (map kept_of qs) c.loop-index.index
    (m ∙ n ∙ sym (length-map kept_of qs))
    (let t = c.loop-index-test.false in omega (arith, t, m))
    c.loop-index.invariant
