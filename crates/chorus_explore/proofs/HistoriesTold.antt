-- Whether a history stands among those that were told.
-- vs are the moves of these in order, ms are moves in order, h is a history, i is how many of them were looked at.
use Rattle.std.proofs.Common.{ℕ, zero, suc, ◌≡◌, ◌<◌, ◌≤◌, ◌+◌, List, [], ◌∷◌, ◌++◌, length, take, reverse, get_or, inl, inr, refl, sym, ◌∙◌, ap, subst, arith}
use Rattle.std.specs.List.{Contains}
use Rattle.std.specs.Global.{Vec}
use Rattle.std.proofs.lemmas.List.{map-append, reverse-reverse}
use Rattle.law_explore.specs.declared.moves.Move.{Move}
use Rattle.law_explore.proofs.Searching.{none, here, there, which}
use Rattle.chorus_explore.specs.DrawnOutcomes.{histories_in}

same-turned : (ms os : List Move) → reverse ms ≡ reverse os → ms ≡ os
same-turned ms os e = sym (reverse-reverse ms) ∙ ap reverse e ∙ reverse-reverse os

-- one that stands there
pub stands-there : (vs : List (Vec Move)) (i : ℕ) (d : Vec Move) (ms : List Move) → i < length vs → (get_or vs i d).items ≡ ms → Contains (histories_in vs) (reverse ms)
stands-there [] i d ms lt e = absurd (omega (arith, lt))
stands-there (v ∷ vs) zero d ms lt e = subst (Contains (histories_in (v ∷ vs))) (ap reverse e) (here (reverse v.items) (histories_in vs))
stands-there (v ∷ vs) (suc i) d ms lt e =
    there (reverse ms) (reverse v.items) (histories_in vs) (stands-there vs i d ms (omega (arith, lt)) e)

pub none-first : (vs : List (Vec Move)) (h : List Move) → Contains (histories_in (take 0 vs)) h → ⊥
none-first vs h c = none h c

-- one more was looked at, which is another
pub none-more : (vs : List (Vec Move)) (i : ℕ) (d : Vec Move) (ms : List Move) → i < length vs → (Contains (histories_in (take i vs)) (reverse ms) → ⊥)
    → ((get_or vs i d).items ≡ ms → ⊥) → Contains (histories_in (take (i + 1) vs)) (reverse ms) → ⊥
none-more vs i d ms lt before other c =
    (let one : i + 1 ≡ suc i = omega arith in by vs i lt before other (subst (λ (k : ℕ). Contains (histories_in (take k vs)) (reverse ms)) one c))
  where
    by : (ws : List (Vec Move)) (k : ℕ) → k < length ws → (Contains (histories_in (take k ws)) (reverse ms) → ⊥) → ((get_or ws k d).items ≡ ms → ⊥)
        → Contains (histories_in (take (suc k) ws)) (reverse ms) → ⊥
    by [] k less earlier apart i = absurd (omega (arith, less))
    by (w ∷ ws) zero less earlier apart i = elim (which (reverse ms) (reverse w.items) [] i) [
      | inl e ↦ apart (same-turned w.items ms e)
      | inr j ↦ none (reverse ms) j
    ]
    by (w ∷ ws) (suc k) less earlier apart i = elim (which (reverse ms) (reverse w.items) (histories_in (take (suc k) ws)) i) [
      | inl e ↦ earlier (subst (Contains (histories_in (take (suc k) (w ∷ ws)))) e (here (reverse w.items) (histories_in (take k ws))))
      | inr j ↦ by ws k (omega (arith, less)) (λ l. earlier (there (reverse ms) (reverse w.items) (histories_in (take k ws)) l)) apart j
    ]

taken-all : {X : Type 0} (xs : List X) (i : ℕ) → length xs ≤ i → take i xs ≡ xs
taken-all [] zero le = refl
taken-all [] (suc i) le = refl
taken-all (x ∷ xs) zero le = absurd (omega (arith, le))
taken-all (x ∷ xs) (suc i) le = ap (λ ys. x ∷ ys) (taken-all xs i (omega (arith, le)))

-- all were looked at
pub none-there : (vs : List (Vec Move)) (i : ℕ) (h : List Move) → length vs ≤ i → (Contains (histories_in (take i vs)) h → ⊥) → Contains (histories_in vs) h → ⊥
none-there vs i h le before c = before (subst (λ (ws : List (Vec Move)). Contains (histories_in ws) h) (sym (taken-all vs i le)) c)

pub told-behind : (vs ws : List (Vec Move)) (v : Vec Move) (ms : List Move) → ws ≡ vs ++ v ∷ [] → v.items ≡ ms → histories_in ws ≡ histories_in vs ++ reverse ms ∷ []
told-behind vs ws v ms is same =
    ap histories_in is ∙ map-append (λ (x : Vec Move). reverse x.items) vs (v ∷ []) ∙ ap (λ (os : List Move). histories_in vs ++ reverse os ∷ []) same
