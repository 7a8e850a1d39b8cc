-- One place, or one caller, of the sites is changed.
use Rattle.std.proofs.Common.{ℕ, zero, suc, ◌≡◌, ◌+◌, ◌<◌, Bool, true, false, cond, List, [], ◌∷◌, length, map, get_or, set, refl, sym, ◌∙◌, ap, subst, arith}
use Rattle.std.specs.List.{All}
use Rattle.std.proofs.lemmas.Bool.{eq-eqb, ne_eqb}
use Rattle.std.proofs.lemmas.List.Elements.{All-nil, All-cons, All-head, All-tail}
use Rattle.chorus_ui.specs.declared.layout.Layout.{Layout}
use Rattle.chorus_ui.specs.Layout.{places}
use Rattle.law_machine.specs.declared.outgoing.Outgoing.{Outgoing}
use Rattle.law_network.specs.Packets.{is_link_before, put, put_all}
use Rattle.law_network.specs.Network.{place_in, with_place}
use Rattle.chorus_place.specs.Calls.{Place, state}
use Rattle.chorus_net.specs.Sites.{boxes, IsPlaceOf, ArePlaces}
use Rattle.chorus_net.proofs.Boxes.{AreBoxes}

-- the place at an index
pub place-of : (l : Layout) (k i : ℕ) (ps : List Place) (d : Place) → ArePlaces l k ps → i < length ps → IsPlaceOf l (k + i) (get_or ps i d)
place-of l k i [] d h lt = absurd (omega (arith, lt))
place-of l k zero (p ∷ ps) d h lt = (let e : k ≡ k + 0 = omega arith in subst (λ j. IsPlaceOf l j p) e h.0)
place-of l k (suc i) (p ∷ ps) d h lt =
    let rest = place-of l (k + 1) i ps d h.1 (omega (arith, lt)) in
    let e : (k + 1) + i ≡ k + suc i = omega arith in
    subst (λ j. IsPlaceOf l j (get_or ps i d)) e rest

pub are-set : (l : Layout) (k i : ℕ) (ps : List Place) (q : Place) → ArePlaces l k ps → IsPlaceOf l (k + i) q → ArePlaces l k (set ps i q)
are-set l k i [] q h s = tt
are-set l k zero (p ∷ ps) q h s = ((let e : k + 0 ≡ k = omega arith in subst (λ j. IsPlaceOf l j q) e s), h.1)
are-set l k (suc i) (p ∷ ps) q h s =
    (h.0, are-set l (k + 1) i ps q h.1 (let e : k + suc i ≡ (k + 1) + i = omega arith in subst (λ j. IsPlaceOf l j q) e s))

-- its number finds it
pub finds : (l m : Layout) (k i n : ℕ) (ps : List Place) (p : Place) → ArePlaces l k ps → i < length ps → n ≡ k + i → p ≡ get_or ps i p → place_in m n (map state ps) ≡ state p
finds l m k i n [] p h lt e g = absurd (omega (arith, lt))
finds l m k zero n (q ∷ ps) p h lt e g =
    ap (λ c. cond c (state q) (place_in m n (map state ps))) (eq-eqb q.number n (let f = h.0.number in omega (arith, e, f))) ∙ ap state (sym g)
finds l m k (suc i) n (q ∷ ps) p h lt e g =
    ap (λ c. cond c (state q) (place_in m n (map state ps))) (ne_eqb q.number n (λ s. (let f = h.0.number in omega (arith, e, f, s))))
    ∙ finds l m (k + 1) i n ps p h.1 (omega (arith, lt)) (omega (arith, e)) g

pub replaces : (l : Layout) (k i : ℕ) (ps : List Place) (q : Place) → ArePlaces l k ps → i < length ps → q.number ≡ k + i → with_place (state q) (map state ps) ≡ map state (set ps i q)
replaces l k i [] q h lt e = absurd (omega (arith, lt))
replaces l k zero (p ∷ ps) q h lt e =
    ap (λ c. cond c (state q ∷ map state ps) (state p ∷ with_place (state q) (map state ps))) (eq-eqb p.number q.number (let f = h.0.number in omega (arith, e, f)))
replaces l k (suc i) (p ∷ ps) q h lt e =
    ap (λ c. cond c (state q ∷ map state ps) (state p ∷ with_place (state q) (map state ps))) (ne_eqb p.number q.number (λ s. (let f = h.0.number in omega (arith, e, f, s))))
    ∙ ap (λ ss. state p ∷ ss) (replaces l (k + 1) i ps q h.1 (omega (arith, lt)) (omega (arith, e)))

-- a place that shows what the one at the index shows
pub still : (ps : List Place) (i : ℕ) (p q : Place) → p ≡ get_or ps i p → i < length ps → state q ≡ state p → map state (set ps i q) ≡ map state ps
still [] i p q e lt s = refl
still (r ∷ ps) zero p q e lt s = ap (λ x. x ∷ map state ps) (s ∙ ap state e)
still (r ∷ ps) (suc i) p q e lt s = ap (λ ss. state r ∷ ss) (still ps i p q e (omega (arith, lt)) s)

-- the outboxes
pub are-boxes : (l : Layout) (k : ℕ) (ps : List Place) → ArePlaces l k ps → AreBoxes (places l + 1) k (boxes ps)
are-boxes l k [] h = tt
are-boxes l k (p ∷ ps) h = (h.0.lists, h.0.from, are-boxes l (k + 1) ps h.1)

pub box-of : (ps : List Place) (i : ℕ) (p : Place) → p ≡ get_or ps i p → i < length ps → get_or (boxes ps) i [] ≡ p.out.lists
box-of [] i p e lt = absurd (omega (arith, lt))
box-of (q ∷ ps) zero p e lt = ap (λ (r : Place). r.out.lists) (sym e)
box-of (q ∷ ps) (suc i) p e lt = box-of ps i p e (omega (arith, lt))

pub boxes-set-is : (ps : List Place) (i : ℕ) (q : Place) → boxes (set ps i q) ≡ set (boxes ps) i q.out.lists
boxes-set-is [] i q = refl
boxes-set-is (p ∷ ps) zero q = refl
boxes-set-is (p ∷ ps) (suc i) q = ap (λ x. p.out.lists ∷ x) (boxes-set-is ps i q)

pub length-boxes : (ps : List Place) → length (boxes ps) ≡ length ps
length-boxes [] = refl
length-boxes (p ∷ ps) = ap suc (length-boxes ps)

-- what holds of all packets holds of those that were put
pub put-parts : (P : Outgoing → Type 0) (o : Outgoing) (us : List Outgoing) → All P (put o us) → P o × All P us
put-parts P o [] h = (All-head P o [] h, All-nil P)
put-parts P o (u ∷ us) h = go (is_link_before o u) h (put-parts P o us)
  where
    go : (c : Bool) → All P (cond c (o ∷ u ∷ us) (u ∷ put o us)) → (All P (put o us) → P o × All P us) → P o × All P (u ∷ us)
    go true g ih = (All-head P o (u ∷ us) g, All-tail P o (u ∷ us) g)
    go false g ih =
        let rest = ih (All-tail P u (put o us) g) in
        (rest.0, All-cons P u us (All-head P u (put o us) g) rest.1)

pub all-put-parts : (P : Outgoing → Type 0) (os us : List Outgoing) → All P (put_all os us) → All P os × All P us
all-put-parts P [] us h = (All-nil P, h)
all-put-parts P (o ∷ os) us h =
    let rest = all-put-parts P os (put o us) h in
    let one = put-parts P o us rest.1 in
    (All-cons P o os one.0 rest.0, one.1)

pub both : (P Q R : Outgoing → Type 0) → ((o : Outgoing) → P o → Q o → R o) → (os : List Outgoing) → All P os → All Q os → All R os
both P Q R f [] h k = All-nil R
both P Q R f (o ∷ os) h k =
    All-cons R o os (f o (All-head P o os h) (All-head Q o os k)) (both P Q R f os (All-tail P o os h) (All-tail Q o os k))
