use Rattle.std.proofs.Common.{◌≡◌, ◌+◌, ◌-◌, ◌<◌, suc, length, set, refl, ◌∙◌, ap, subst, arith}
use Rattle.std.proofs.lemmas.List.{length-set}
use Rattle.chorus_merge.specs.Steps.{journals_of}
use Rattle.chorus_net.specs.Sites.{IsPlaceOf}
use Rattle.chorus_net.proofs.Renewing.{AreRestarted, AreTaken, all-restarted, none-taken, old-at, one-taken}
use Rattle.chorus_net.specs.Starting.{HasStarted}
use Rattle.chorus_net.proofs.restarting.restart_places.Goals as goal

pub loop-number-init : goal.loop-number-init
loop-number-init c = record {
  taken = none-taken c.args.layout c.args.mark c.args.used.items _ c.requires.are c.requires.untouched (ap (λ xs. journals_of xs) c.new.ensures.items) c.new-2.ensures.items c.new-3.ensures.items refl;
  all = c.requires.all;
  least = omega arith;
  most = omega arith;
}

pub restart_place-requires-clause-is : goal.restart_place-requires-clause-is
restart_place-requires-clause-is c =
    let l = c.loop-number in
    let lt : c.from.result - 1 < length c.loop-number.places.items =
    (let t = c.loop-number-test.true in let b = c.places-count.ensures.value in let a = l.invariant.all in let e = c.from.ensures in let k = l.invariant.least in omega (arith, t, a, e, k, b)) in
    let same : c.loop-number.number - 1 ≡ c.from.result - 1 = (let e = c.from.ensures in omega (arith, e)) in
    let at : 1 + (c.from.result - 1) ≡ c.loop-number.number = (let e = c.from.ensures in let k = l.invariant.least in omega (arith, e, k)) in
    subst (λ n. IsPlaceOf c.args.layout n c.index_mut-place.result.now) at
    (old-at c.args.layout 1 (c.from.result - 1) l.places.items c.index_mut-place.result.now
    (subst (λ n. AreRestarted c.args.layout 1 n c.loop-number.places.items) same l.invariant.taken.restarted) c.index_mut-place.ensures.value lt).place

pub restart_place-requires-clause-untouched : goal.restart_place-requires-clause-untouched
restart_place-requires-clause-untouched c =
    let l = c.loop-number in
    let lt : c.from.result - 1 < length c.loop-number.places.items =
    (let t = c.loop-number-test.true in let b = c.places-count.ensures.value in let a = l.invariant.all in let e = c.from.ensures in let k = l.invariant.least in omega (arith, t, a, e, k, b)) in
    let same : c.loop-number.number - 1 ≡ c.from.result - 1 = (let e = c.from.ensures in omega (arith, e)) in
    (old-at c.args.layout 1 (c.from.result - 1) l.places.items c.index_mut-place.result.now
    (subst (λ n. AreRestarted c.args.layout 1 n c.loop-number.places.items) same l.invariant.taken.restarted) c.index_mut-place.ensures.value lt).untouched

pub loop-number-preserved : goal.loop-number-preserved
loop-number-preserved c =
    let l = c.loop-number in
    let lt : c.from.result - 1 < length c.loop-number.places.items =
    (let t = c.loop-number-test.true in let b = c.places-count.ensures.value in let a = l.invariant.all in let e = c.from.ensures in let k = l.invariant.least in omega (arith, t, a, e, k, b)) in
    let same : c.loop-number.number - 1 ≡ c.from.result - 1 = (let e = c.from.ensures in omega (arith, e)) in
    let at : c.loop-number.number ≡ 1 + (c.from.result - 1) = (let e = c.from.ensures in let k = l.invariant.least in omega (arith, e, k)) in
    let next : suc (c.from.result - 1) ≡ c.loop-number.number + 1 - 1 = (let e = c.from.ensures in let k = l.invariant.least in omega (arith, e, k)) in
    let done = one-taken c.args.layout c.args.mark (c.from.result - 1) c.args.used.items l.places.items c.index_mut-place.result.now c.restart_place.new.place l.closed c.restart_place.new.closed
    (subst (λ n. AreTaken c.args.layout c.args.mark n c.args.used.items c.loop-number.places.items c.loop-number.closed) same l.invariant.taken) c.index_mut-place.ensures.value lt
    c.in_ok-restart_place.ensures.with_place (subst (λ n. HasStarted c.args.layout n c.restart_place.new.place) at c.in_ok-restart_place.ensures.started) in
    record {
      taken = subst (λ n. AreTaken c.args.layout c.args.mark n c.args.used.items (set c.loop-number.places.items (c.from.result - 1) c.restart_place.new.place) c.restart_place.new.closed) next done;
      all = length-set c.loop-number.places.items (c.from.result - 1) c.restart_place.new.place ∙ l.invariant.all;
      least = omega arith;
      most = (let t = c.loop-number-test.true in omega (arith, t));
    }

pub returns-clause-started : goal.returns-clause-started
returns-clause-started c =
    let l = c.loop-number in
    all-restarted c.args.layout 1 (l.number - 1) l.places.items l.invariant.taken.restarted
    (let t = c.loop-number-test.false in let b = c.places-count.ensures.value in let a = l.invariant.all in let m = l.invariant.most in omega (arith, t, a, m, b))
