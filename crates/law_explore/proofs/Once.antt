-- No move is listed twice among those that may come, and no history among all of its length.
-- l is a layout, r is a race, m and o are moves, h and k are histories.
use Rattle.std.proofs.Common.{ℕ, zero, suc, ◌≡◌, ◌≢◌, ◌≤◌, ◌+◌, Bool, true, false, cond, List, [], ◌∷◌, ◌++◌, length, map, ◌⊎◌, inl, inr, refl, sym, ◌∙◌, ap, subst, arith}
use Rattle.std.specs.List.{AllPairs, All, Contains, filter, flat_map}
use Rattle.std.proofs.lemmas.List.Elements.{All-nil, All-cons, Contains-append_cases}
use Rattle.std.proofs.lemmas.List.Kept.{AllPairs-cons}
use Rattle.chorus_ui.specs.declared.layout.Layout.{Layout}
use Rattle.chorus_ui.specs.Layout.{places}
use Rattle.law_network.specs.Network.{numbers, place_numbers}
use Rattle.law_explore.specs.declared.moves.Move.{Move}
use Rattle.law_explore.specs.declared.moves.Move.TheVariants.{Go, Carry}
use Rattle.law_explore.specs.Search.{state_after}
use Rattle.law_explore.specs.Races.{Race, Order, may_come, replaying, links_to, links_between, all_moves}
use Rattle.law_explore.specs.Positions.{next_behind}
use Rattle.law_explore.specs.Levels.{histories_of, HistoriesAreListed}
use Rattle.law_explore.proofs.Searching.{none, here, there, which, of-flat}
use Rattle.law_explore.proofs.Histories.{are-listed, no-other}

-- Lists.

abbrev pub Once : {X : Type 0} → List X → Type 0
Once [] = Unit {0}
Once (x ∷ xs) = (Contains xs x → ⊥) × Once xs

module _ {X : Type 0} where
  of-filter : (p : X → Bool) (xs : List X) (x : X) → Contains (filter p xs) x → Contains xs x
  of-filter p [] x k = k
  of-filter p (y ∷ xs) x k = by (p y) k (of-filter p xs x)
    where
      one : (y ≡ x) ⊎ Contains (filter p xs) x → (Contains (filter p xs) x → Contains xs x) → Contains (y ∷ xs) x
      one (inl e) ih = subst (λ z. Contains (y ∷ xs) z) e (here y xs)
      one (inr j) ih = there x y xs (ih j)

      by : (b : Bool) → Contains (cond b (y ∷ filter p xs) (filter p xs)) x → (Contains (filter p xs) x → Contains xs x) → Contains (y ∷ xs) x
      by true j ih = one (which x y (filter p xs) j) ih
      by false j ih = there x y xs (ih j)

  once-filter : (p : X → Bool) (xs : List X) → Once xs → Once (filter p xs)
  once-filter p [] h = tt
  once-filter p (y ∷ xs) h = by (p y) (once-filter p xs h.1)
    where
      by : (b : Bool) → Once (filter p xs) → Once (cond b (y ∷ filter p xs) (filter p xs))
      by true ih = ((λ k. h.0 (of-filter p xs y k)), ih)
      by false ih = ih

  once-append : (xs ys : List X) → Once xs → Once ys → ((x : X) → Contains xs x → Contains ys x → ⊥) → Once (xs ++ ys)
  once-append [] ys h k apart = k
  once-append (x ∷ xs) ys h k apart =
      ((λ c. by (Contains-append_cases xs ys x c)), once-append xs ys h.1 k (λ y i j. apart y (there y x xs i) j))
    where
      by : Contains xs x ⊎ Contains ys x → ⊥
      by (inl i) = h.0 i
      by (inr j) = apart x (here x xs) j

  all-unlike : (x : X) (xs : List X) → (Contains xs x → ⊥) → All (λ (y : X). x ≢ y) xs
  all-unlike x [] no_ = All-nil (λ (y : X). x ≢ y)
  all-unlike x (z ∷ xs) no_ =
      All-cons (λ (y : X). x ≢ y) z xs (λ e. no_ (subst (λ y. Contains (z ∷ xs) y) (sym e) (here z xs))) (all-unlike x xs (λ k. no_ (there x z xs k)))

  pub all-differ : (xs : List X) → Once xs → AllPairs (λ (x y : X). x ≢ y) xs
  all-differ [] h = λ i j d lt below. absurd (omega (arith, below))
  all-differ (x ∷ xs) h = AllPairs-cons (λ (a b : X). a ≢ b) x xs (all-unlike x xs h.0) (all-differ xs h.1)

module _ {X Y : Type 0} (f : X → Y) where
  of-map : (xs : List X) (y : Y) → Contains (map f xs) y → (x : X) × (Contains xs x × (f x ≡ y))
  of-map [] y k = absurd (none y k)
  of-map (x ∷ xs) y k = by (which y (f x) (map f xs) k) (of-map xs y)
    where
      by : (f x ≡ y) ⊎ Contains (map f xs) y → (Contains (map f xs) y → (z : X) × (Contains xs z × (f z ≡ y))) → (z : X) × (Contains (x ∷ xs) z × (f z ≡ y))
      by (inl e) ih = (x, (here x xs, e))
      by (inr j) ih = let r = ih j in (r.0, (there r.0 x xs r.1.0, r.1.1))

  once-map : ((x z : X) → f x ≡ f z → x ≡ z) → (xs : List X) → Once xs → Once (map f xs)
  once-map one [] h = tt
  once-map one (x ∷ xs) h = (
    (λ k. let r = of-map xs (f x) k in h.0 (subst (λ z. Contains xs z) (one r.0 x r.1.1) r.1.0)),
    once-map one xs h.1,
  )

module _ {X A : Type 0} (f : X → List A) where
  once-flat : (xs : List X) → Once xs → ((x : X) → Once (f x)) → ((x z : X) (a : A) → Contains (f x) a → Contains (f z) a → x ≡ z) → Once (flat_map f xs)
  once-flat [] h each apart = tt
  once-flat (x ∷ xs) h each apart =
      once-append (f x) (flat_map f xs) (each x) (once-flat xs h.1 each apart)
      (λ a i j.
      let r = of-flat f xs a j in
      h.0 (subst (λ z. Contains xs z) (sym (apart x r.0 a i r.1.1)) r.1.0))

-- Moves.

from-first : (count p i : ℕ) → Contains (numbers count p) i → p ≤ i
from-first zero p i k = absurd (none i k)
from-first (suc count) p i k = by (which i p (numbers count (p + 1)) k) (from-first count (p + 1) i)
  where
    by : (p ≡ i) ⊎ Contains (numbers count (p + 1)) i → (Contains (numbers count (p + 1)) i → p + 1 ≤ i) → p ≤ i
    by (inl e) ih = omega (arith, e)
    by (inr j) ih = let le = ih j in omega (arith, le)

once-numbers : (count p : ℕ) → Once (numbers count p)
once-numbers zero p = tt
once-numbers (suc count) p = ((λ k. let le = from-first count (p + 1) p k in omega (arith, le)), once-numbers count (p + 1))

same-go : (i j : ℕ) → Go i ≡ Go j → i ≡ j
same-go i j e = cc

same-from : (a b c d : ℕ) → Carry a b ≡ Carry c d → a ≡ c
same-from a b c d e = cc

same-to : (a b c d : ℕ) → Carry a b ≡ Carry c d → b ≡ d
same-to a b c d e = cc

no-link : (i a b : ℕ) → Go i ≡ Carry a b → ⊥
no-link i a b e = cc

links-are : (a : ℕ) (bs : List ℕ) → links_to a bs ≡ map (Carry a) bs
links-are a [] = refl
links-are a (b ∷ bs) = ap (λ ms. Carry a b ∷ ms) (links-are a bs)

all-links-are : (as_ bs : List ℕ) → links_between as_ bs ≡ flat_map (λ (a : ℕ). map (Carry a) bs) as_
all-links-are [] bs = refl
all-links-are (a ∷ as_) bs = λ i. links-are a bs i ++ all-links-are as_ bs i

once-links : (as_ bs : List ℕ) → Once as_ → Once bs → Once (flat_map (λ (a : ℕ). map (Carry a) bs) as_)
once-links as_ bs h k =
    once-flat (λ (a : ℕ). map (Carry a) bs) as_ h (λ a. once-map (Carry a) (λ b d e. same-to a b a d e) bs k)
    (λ a c m i j.
    let x = of-map (Carry a) bs m i in
    let z = of-map (Carry c) bs m j in
    same-from a x.0 c z.0 (x.1.1 ∙ sym z.1.1))

once-moves : (l : Layout) (left : List (List Order)) → Once (all_moves l left)
once-moves l left =
    subst (λ (ms : List Move). Once (map Go (numbers (length left) 0) ++ ms)) (sym (all-links-are (place_numbers l) (place_numbers l)))
    (once-append (map Go (numbers (length left) 0)) (flat_map (λ (a : ℕ). map (Carry a) (place_numbers l)) (place_numbers l))
    (once-map Go same-go (numbers (length left) 0) (once-numbers (length left) 0))
    (once-links (place_numbers l) (place_numbers l) (once-numbers (places l) 1) (once-numbers (places l) 1))
    (λ m i j.
    let x = of-map Go (numbers (length left) 0) m i in
    let a = of-flat (λ (a : ℕ). map (Carry a) (place_numbers l)) (place_numbers l) m j in
    let z = of-map (Carry a.0) (place_numbers l) m a.1.1 in
    no-link x.0 a.0 z.0 (x.1.1 ∙ sym z.1.1)))

-- Histories.

module _ (r : Race) where
  same-move : (h : List Move) (m o : Move) → m ∷ h ≡ o ∷ h → m ≡ o
  same-move h m o e = cc

  same-behind : (m o : Move) (h k : List Move) → m ∷ h ≡ o ∷ k → h ≡ k
  same-behind m o h k e = cc

  abbrev onward : List Move → List (List Move)
  onward h = map (λ (m : Move). m ∷ h) (next_behind r h)

  once-onward : (h : List Move) → Once (onward h)
  once-onward h =
      let s = state_after (replaying r) h in
      once-map (λ (m : Move). m ∷ h) (same-move h) (next_behind r h)
      (once-filter (λ (m : Move). may_come r.net.layout m s) (all_moves r.net.layout s.left) (once-moves r.net.layout s.left))

  pub once-histories : (n : ℕ) → Once (histories_of r n)
  once-histories zero = ((λ k. none [] k), tt)
  once-histories (suc n) =
      once-flat onward (histories_of r n) (once-histories n) once-onward
      (λ h k a i j.
      let x = of-map (λ (m : Move). m ∷ h) (next_behind r h) a i in
      let z = of-map (λ (m : Move). m ∷ k) (next_behind r k) a j in
      same-behind x.0 z.0 h k (x.1.1 ∙ sym z.1.1))

pub histories-are-listed : HistoriesAreListed
histories-are-listed r n =
    record {
      every = λ h is e. are-listed r n h is e;
      no_other = λ h c. no-other r n h c;
      once = all-differ (histories_of r n) (once-histories r n);
    }
