use Rattle.std.proofs.Common.{refl, ◌≡◌, ◌≤◌, ◌+◌, [], length, map, slice_get, sym, ◌∙◌, arith}
use Rattle.chorus_explore.specs.AlikeSites.Packets.{are_plain}
use Rattle.chorus_explore.proofs.AlikeSites.Lists.{same-up-to, below-next, map-at, length-map}
use Rattle.chorus_explore.proofs.alike_sites.packets.are_same_packets.Goals as goal

pub loop-to-preserved : goal.loop-to-preserved
loop-to-preserved c =
    let ls = c.args.one.now.lists in
    let ks = c.args.other.now.lists in
    let n : length ls ≡ length ks = let a = c.requires.one in let b = c.requires.other in omega (arith, a, b) in
    let next = below-next (λ i. slice_get (map are_plain ls) i ≡ slice_get (map are_plain ks) i) c.loop-to.to c.loop-to.invariant
    (map-at are_plain ls ks c.loop-to.to [] n (c.if-not-are_same_to.ensures refl)) in
    λ i l. next i (omega (arith, l))

pub returns : goal.returns
returns c = λ e.
    let ls = c.args.one.now.lists in
    let ks = c.args.other.now.lists in
    let n : length ls ≡ length ks = let a = c.requires.one in let b = c.requires.other in omega (arith, a, b) in
    let long : length (map are_plain ls) ≤ c.args.places + 1 = let a = c.requires.one in let m = length-map are_plain ls in omega (arith, a, m) in
    let below = below-next (λ i. slice_get (map are_plain ls) i ≡ slice_get (map are_plain ks) i) c.args.places
    (λ i l. c.loop-to.invariant i (let t = c.loop-to-test.false in omega (arith, l, t)))
    (map-at are_plain ls ks c.args.places [] n (c.are_same_to-last.ensures e)) in
    same-up-to (map are_plain ls) (map are_plain ks) (c.args.places + 1)
    (length-map are_plain ls ∙ n ∙ sym (length-map are_plain ks)) long (λ i l. below i (omega (arith, l)))
