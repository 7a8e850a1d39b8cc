-- The places of a network stay those of the layout.
use Rattle.std.proofs.Common.{ℕ, ◌≡◌, ◌==◌, Bool, true, false, cond, List, [], ◌∷◌, map, refl, sym, ◌∙◌, ap, arith}
use Rattle.std.proofs.lemmas.Bool.{false≢true}
use Rattle.chorus_ui.specs.declared.layout.Layout.{Layout}
use Rattle.law_machine.specs.PlaceState.{PlaceState}
use Rattle.law_network.specs.Network.{place_in, with_place}

equal : (a b : ℕ) → (a == b) ≡ true → a ≡ b
equal a b e = grind (arith, e)

-- putting back a place of this number and layout changes no number and no layout
pub with-numbers : (s : PlaceState) (rs : List PlaceState) → map (λ (r : PlaceState). r.number) (with_place s rs) ≡ map (λ (r : PlaceState). r.number) rs
with-numbers s [] = refl
with-numbers s (r ∷ rs) = by (r.number == s.number) refl (with-numbers s rs)
  where
    by : (b : Bool) → (r.number == s.number) ≡ b → map (λ (r : PlaceState). r.number) (with_place s rs) ≡ map (λ (r : PlaceState). r.number) rs
        → map (λ (r : PlaceState). r.number) (cond b (s ∷ rs) (r ∷ with_place s rs)) ≡ r.number ∷ map (λ (r : PlaceState). r.number) rs
    by true e ih = let g : r.number ≡ s.number = equal r.number s.number e in ap (λ n. n ∷ map (λ (r : PlaceState). r.number) rs) (sym g)
    by false e ih = ap (λ ns. r.number ∷ ns) ih

pub with-layouts : (l : Layout) (s : PlaceState) (rs : List PlaceState) → s.layout ≡ l → (ks : List ℕ) → map (λ (r : PlaceState). r.layout) rs ≡ map (λ (k : ℕ). l) ks
    → map (λ (r : PlaceState). r.layout) (with_place s rs) ≡ map (λ (k : ℕ). l) ks
with-layouts l s [] e ks h = h
with-layouts l s (r ∷ rs) e [] h = absurd (cc)
with-layouts l s (r ∷ rs) e (k ∷ ks) h = by (r.number == s.number) (with-layouts l s rs e ks (cc))
  where
    by : (b : Bool) → map (λ (r : PlaceState). r.layout) (with_place s rs) ≡ map (λ (k : ℕ). l) ks
        → map (λ (r : PlaceState). r.layout) (cond b (s ∷ rs) (r ∷ with_place s rs)) ≡ l ∷ map (λ (k : ℕ). l) ks
    by true ih = cc
    by false ih = cc

-- another place is as it was
pub place-other : (l : Layout) (p : ℕ) (s : PlaceState) (rs : List PlaceState) → (s.number == p) ≡ false → place_in l p (with_place s rs) ≡ place_in l p rs
place-other l p s [] h = refl
place-other l p s (r ∷ rs) h = by (r.number == s.number) (r.number == p) refl refl (place-other l p s rs h)
  where
    apart : (a b c : ℕ) → (a == b) ≡ true → (a == c) ≡ true → (b == c) ≡ false → ⊥
    apart a b c e f g = grind (arith, e, f, g)

    by : (b c : Bool) → (r.number == s.number) ≡ b → (r.number == p) ≡ c → place_in l p (with_place s rs) ≡ place_in l p rs
        → place_in l p (cond b (s ∷ rs) (r ∷ with_place s rs)) ≡ cond c r (place_in l p rs)
    by true true e f ih = absurd (apart r.number s.number p e f h)
    by true false e f ih = ap (λ x. cond x s (place_in l p rs)) h
    by false c e f ih = ap (λ x. cond x r (place_in l p (with_place s rs))) f ∙ ap (λ x. cond c r x) ih

-- the number stands in the list
abbrev pub stands_in : ℕ → List PlaceState → Bool
stands_in p [] = false
stands_in p (r ∷ rs) = cond (r.number == p) true (stands_in p rs)

-- and the place of this number is the one that was put back, where there is one
pub place-same : (l : Layout) (s : PlaceState) (rs : List PlaceState) → stands_in s.number rs ≡ true → place_in l s.number (with_place s rs) ≡ s
place-same l s [] h = absurd (false≢true h)
place-same l s (r ∷ rs) h = by (r.number == s.number) refl h (place-same l s rs)
  where
    self : (a : ℕ) → (a == a) ≡ true
    self a = grind (arith)

    by : (b : Bool) → (r.number == s.number) ≡ b → cond b true (stands_in s.number rs) ≡ true → (stands_in s.number rs ≡ true → place_in l s.number (with_place s rs) ≡ s)
        → place_in l s.number (cond b (s ∷ rs) (r ∷ with_place s rs)) ≡ s
    by true e h ih = ap (λ x. cond x s (place_in l s.number rs)) (self s.number)
    by false e h ih = ap (λ x. cond x r (place_in l s.number (with_place s rs))) e ∙ ih h
