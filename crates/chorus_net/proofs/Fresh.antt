-- Places on which nothing happened yet.
use Rattle.std.proofs.Common.{ℕ, zero, suc, ◌≡◌, ◌+◌, List, [], ◌∷◌, ◌++◌, length, map, replicate, refl, sym, ◌∙◌, ap, subst, arith}
use Rattle.std.proofs.lemmas.List.{length-replicate}
use Rattle.chorus_ui.specs.declared.layout.Layout.{Layout}
use Rattle.chorus_ui.specs.Layout.{places}
use Rattle.law_machine.specs.PlaceState.{PlaceState, started}
use Rattle.law_network.specs.Network.{numbers}
use Rattle.chorus_place.specs.Calls.{Place, state}
use Rattle.chorus_net.specs.Sites.{waiting_from, waiting_in, boxes, AllFrom, ArePlaces}
use Rattle.chorus_net.specs.Starting.{HasStarted, HaveStarted}

pub one-more : (l : Layout) (k n : ℕ) (ps : List Place) (p : Place) → HaveStarted l k ps → k + length ps ≡ n → HasStarted l n p → HaveStarted l k (ps ++ p ∷ [])
one-more l k n [] p h e s = ((let same : n ≡ k = omega (arith, e) in subst (λ j. HasStarted l j p) same s), tt)
one-more l k n (q ∷ ps) p h e s = (h.0, one-more l (k + 1) n ps p h.1 (omega (arith, e)) s)

none-from : (a n : ℕ) → AllFrom a (replicate n [])
none-from a zero = tt
none-from a (suc n) = (tt, none-from a n)

none-waits : (b n : ℕ) → waiting_from b (replicate n []) ≡ []
none-waits b zero = refl
none-waits b (suc n) = none-waits (b + 1) n

pub are-places : (l : Layout) (k : ℕ) (ps : List Place) → HaveStarted l k ps → ArePlaces l k ps
are-places l k [] h = tt
are-places l k (p ∷ ps) h = (
  record {
    number = ap (λ (s : PlaceState). s.number) h.0.state;
    layout = ap (λ (s : PlaceState). s.layout) h.0.state;
    lists = ap length h.0.waits ∙ length-replicate (places l + 1) [];
    from = subst (AllFrom k) (sym h.0.waits) (none-from k (places l + 1));
  },
  are-places l (k + 1) ps h.1,
)

pub none-waiting : (l : Layout) (k : ℕ) (ps : List Place) → HaveStarted l k ps → waiting_in (boxes ps) ≡ []
none-waiting l k [] h = refl
none-waiting l k (p ∷ ps) h =
    ap (λ vs. vs ++ waiting_in (boxes ps)) (ap (waiting_from 0) h.0.waits ∙ none-waits 0 (places l + 1)) ∙ none-waiting l (k + 1) ps h.1

pub all-started : (l : Layout) (k n : ℕ) (ps : List Place) → HaveStarted l k ps → length ps ≡ n → map state ps ≡ map (started l) (numbers n k)
all-started l k zero [] h e = refl
all-started l k (suc n) [] h e = absurd (omega (arith, e))
all-started l k zero (p ∷ ps) h e = absurd (omega (arith, e))
all-started l k (suc n) (p ∷ ps) h e =
    ap (λ s. s ∷ map state ps) h.0.state ∙ ap (λ ss. started l k ∷ ss) (all-started l (k + 1) n ps h.1 (omega (arith, e)))
