-- What was found level by level: all whole histories, each once.
-- r is a race, cs are classes, h and k are histories, hs and ks lists of them, m and o are moves.
use Rattle.std.proofs.Common.{ℕ, zero, suc, ◌≡◌, ◌<◌, ◌≤◌, ◌==◌, ◌&&◌, Bool, true, false, List, [], ◌∷◌, ◌++◌, length, sum_by, ◌⊎◌, inl, inr, refl, sym, ◌∙◌, ap, subst, arith}
use Rattle.std.specs.List.{All, Contains}
use Rattle.std.proofs.lemmas.Bool.{false≢true, and_parts, eqb-true, eq-eqb}
use Rattle.std.proofs.lemmas.List.Elements.{All-nil, All-cons, All-head, All-tail, Contains-append_left, Contains-append_right, Contains-append_cases}
use Rattle.std.proofs.lemmas.List.Sums.{sum_by-cons}
use Rattle.law_explore.specs.declared.moves.Move.{Move}
use Rattle.law_explore.specs.declared.moves.Move.TheVariants.{Go, Carry}
use Rattle.law_explore.specs.Search.{IsHistory, state_after}
use Rattle.law_explore.specs.Races.{Race, replaying, IsRace, IsWhole}
use Rattle.law_explore.specs.Positions.{next_behind}
use Rattle.law_explore.specs.Levels.{histories_of}
use Rattle.law_explore.specs.Merging.{Telling, TellsOn}
use Rattle.law_explore.specs.Members.{Merged, all_members, SameHistories, IsEnd, IsMerged, IsLevel, AreOnce, AreFound, LevelsOfMergedFindAll}
use Rattle.law_explore.proofs.Searching.{none, here, there, which, of-flat}
use Rattle.law_explore.proofs.Exploring.{lists-next}
use Rattle.law_explore.proofs.Histories.{are-listed, no-other}
use Rattle.law_explore.proofs.Once.{Once, once-histories}
use Rattle.law_explore.proofs.Members.{merged-next}

-- Whether two histories are one.

abbrev same-move : Move → Move → Bool
same-move (Go i) (Go j) = i == j
same-move (Carry a b) (Carry c d) = (a == c) && (b == d)
same-move _ _ = false

from-same-move : (m o : Move) → same-move m o ≡ true → m ≡ o
from-same-move (Go i) (Go j) e = ap Go (eqb-true i j e)
from-same-move (Carry a b) (Carry c d) e =
    let both = and_parts (a == c) (b == d) e in λ i. Carry (eqb-true a c both.0 i) (eqb-true b d both.1 i)
from-same-move (Go i) (Carry c d) e = absurd (false≢true e)
from-same-move (Carry a b) (Go j) e = absurd (false≢true e)

same-move-self : (m : Move) → same-move m m ≡ true
same-move-self (Go i) = eq-eqb i i refl
same-move-self (Carry a b) = λ i. eq-eqb a a refl i && eq-eqb b b refl i

abbrev same : List Move → List Move → Bool
same [] [] = true
same (m ∷ h) (o ∷ k) = same-move m o && same h k
same _ _ = false

from-same : (h k : List Move) → same h k ≡ true → h ≡ k
from-same [] [] e = refl
from-same [] (o ∷ k) e = absurd (false≢true e)
from-same (m ∷ h) [] e = absurd (false≢true e)
from-same (m ∷ h) (o ∷ k) e =
    let both = and_parts (same-move m o) (same h k) e in λ i. from-same-move m o both.0 i ∷ from-same h k both.1 i

same-self : (h : List Move) → same h h ≡ true
same-self [] = refl
same-self (m ∷ h) = λ i. same-move-self m i && same-self h i

abbrev one-if : Bool → ℕ
one-if true = 1
one-if false = 0

abbrev is-one : List Move → List Move → ℕ
is-one h k = one-if (same h k)

-- How often a history stands in a list.

here-one : (h k : List Move) → k ≡ h → is-one h k ≡ 1
here-one h k e = ap one-if (ap (same h) e ∙ same-self h)

sum-has : (h : List Move) (hs : List (List Move)) → Contains hs h → 1 ≤ sum_by (is-one h) hs
sum-has h [] c = absurd (none h c)
sum-has h (k ∷ hs) c = by (which h k hs c) (sum-has h hs)
  where
    by : (k ≡ h) ⊎ Contains hs h → (Contains hs h → 1 ≤ sum_by (is-one h) hs) → 1 ≤ sum_by (is-one h) (k ∷ hs)
    by (inl e) ih = let a = sum_by-cons (is-one h) k hs in let b = here-one h k e in omega (arith, a, b)
    by (inr j) ih = let a = sum_by-cons (is-one h) k hs in let b = ih j in omega (arith, a, b)

has-sum : (h : List Move) (hs : List (List Move)) → 1 ≤ sum_by (is-one h) hs → Contains hs h
has-sum h [] l = absurd (omega (arith, l))
has-sum h (k ∷ hs) l = by (same h k) refl (has-sum h hs)
  where
    by : (b : Bool) → same h k ≡ b → (1 ≤ sum_by (is-one h) hs → Contains hs h) → Contains (k ∷ hs) h
    by true e ih = subst (λ (x : List Move). Contains (x ∷ hs) h) (from-same h k e) (here h hs)
    by false e ih =
        let a = sum_by-cons (is-one h) k hs in
        let z : is-one h k ≡ 0 = ap one-if e in
        there h k hs (ih (omega (arith, a, z, l)))

none-sum : (h : List Move) (hs : List (List Move)) → (Contains hs h → ⊥) → sum_by (is-one h) hs ≡ 0
none-sum h hs no_ = by (sum_by (is-one h) hs) refl
  where
    by : (n : ℕ) → sum_by (is-one h) hs ≡ n → n ≡ 0
    by zero e = refl
    by (suc n) e = absurd (no_ (has-sum h hs (omega (arith, e))))

once-sum : (h : List Move) (hs : List (List Move)) → Once hs → sum_by (is-one h) hs ≤ 1
once-sum h [] f = omega arith
once-sum h (k ∷ hs) f = by (same h k) refl (once-sum h hs f.1)
  where
    by : (b : Bool) → same h k ≡ b → sum_by (is-one h) hs ≤ 1 → sum_by (is-one h) (k ∷ hs) ≤ 1
    by true e ih =
        let a = sum_by-cons (is-one h) k hs in
        let o : is-one h k ≡ 1 = ap one-if e in
        let z = none-sum h hs (λ c. f.0 (subst (Contains hs) (from-same h k e) c)) in
        omega (arith, a, o, z)
    by false e ih =
        let a = sum_by-cons (is-one h) k hs in
        let z : is-one h k ≡ 0 = ap one-if e in
        omega (arith, a, z, ih)

sum-once : (hs : List (List Move)) → ((h : List Move) → sum_by (is-one h) hs ≤ 1) → AreOnce hs
sum-once [] f = tt
sum-once (k ∷ hs) f = (
  (λ c.
      let a = sum_by-cons (is-one k) k hs in
      let o = here-one k k refl in
      let b = sum-has k hs c in
      let l = f k in
      absurd (omega (arith, a, o, b, l))),
  sum-once hs (λ h. let a = sum_by-cons (is-one h) k hs in let l = f h in omega (arith, a, l)),
)

-- Lists of the same histories.

once-end : (hs ks : List (List Move)) → AreOnce (hs ++ ks) → AreOnce ks
once-end [] ks f = f
once-end (h ∷ hs) ks f = once-end hs ks f.1

both-once : (hs ks : List (List Move)) → AreOnce hs → AreOnce ks → ((h : List Move) → Contains hs h → Contains ks h → ⊥) → AreOnce (hs ++ ks)
both-once [] ks f g apart = g
both-once (h ∷ hs) ks f g apart =
    ((λ c. by (Contains-append_cases hs ks h c)), both-once hs ks f.1 g (λ k i j. apart k (there k h hs i) j))
  where
    by : Contains hs h ⊎ Contains ks h → ⊥
    by (inl i) = f.0 i
    by (inr j) = apart h (here h hs) j

all-has : {X : Type 0} (P : X → Type 0) (xs : List X) (x : X) → All P xs → Contains xs x → P x
all-has P [] x f c = absurd (none x c)
all-has P (z ∷ xs) x f c = by (which x z xs c) (all-has P xs x (All-tail P z xs f))
  where
    by : (z ≡ x) ⊎ Contains xs x → (Contains xs x → P x) → P x
    by (inl e) ih = subst P e (All-head P z xs f)
    by (inr j) ih = ih j

all-of : {X : Type 0} (P : X → Type 0) (xs : List X) → ((x : X) → Contains xs x → P x) → All P xs
all-of P [] f = All-nil P
all-of P (x ∷ xs) f = All-cons P x xs (f x (here x xs)) (all-of P xs (λ z c. f z (there z x xs c)))

all-both : {X : Type 0} (P : X → Type 0) (xs ys : List X) → All P xs → All P ys → All P (xs ++ ys)
all-both P xs ys f g = all-of P (xs ++ ys) (λ z c. by z (Contains-append_cases xs ys z c))
  where
    by : (z : _) → Contains xs z ⊎ Contains ys z → P z
    by z (inl i) = all-has P xs z f i
    by z (inr j) = all-has P ys z g j

less-or : (a n : ℕ) → a < suc n → (a < n) ⊎ (a ≡ n)
less-or zero zero l = inr refl
less-or zero (suc n) l = inl (omega arith)
less-or (suc a) zero l = absurd (omega (arith, l))
less-or (suc a) (suc n) l = by (less-or a n (omega (arith, l)))
  where
    by : (a < n) ⊎ (a ≡ n) → (suc a < suc n) ⊎ (suc a ≡ suc n)
    by (inl k) = inl (omega (arith, k))
    by (inr e) = inr (ap suc e)

once-front : (hs ks : List (List Move)) → AreOnce (hs ++ ks) → AreOnce hs
once-front [] ks f = tt
once-front (h ∷ hs) ks f = ((λ c. f.0 (Contains-append_left hs ks h c)), once-front hs ks f.1)

-- Of a level that is gone through in part, with what was found before, each stands once.
pub front-once : (r : Race) (n : ℕ) (found others ends pending : List (List Move)) → AreFound r n found → SameHistories (others ++ ends ++ pending) (histories_of r n) → AreOnce (found ++ ends)
front-once r n found others ends pending are same =
    both-once found ends are.once (once-end others ends (once-front (others ++ ends) pending all-once))
    (λ h i j.
    let f = (all-has (λ (k : List Move). IsWhole r k × (length k < n)) found h are.whole i).1 in
    let c = Contains-append_left (others ++ ends) pending h (Contains-append_right others ends h j) in
    let l = sum-has h (others ++ ends ++ pending) c in
    let s = same (is-one h) in
    let e = (no-other r n h (has-sum h (histories_of r n) (omega (arith, l, s)))).1 in
    omega (arith, f, e))
  where
    all-once : AreOnce (others ++ ends ++ pending)
    all-once = sum-once (others ++ ends ++ pending) (λ h. let l = once-sum h (histories_of r n) (once-histories r n) in let s = same (is-one h) in omega (arith, l, s))

module _ (tells : Telling) (r : Race) (on : TellsOn tells) (race : IsRace r) where
  module _ (n : ℕ) (cs : List Merged) (ends : List (List Move)) (level : IsLevel tells r n cs ends) where
    abbrev both : List (List Move)
    both = all_members cs ++ ends

    listed-in : (h : List Move) → IsHistory (replaying r) h → length h ≡ n → Contains both h
    listed-in h is e =
        let l = sum-has h (histories_of r n) (are-listed r n h is e) in
        let s = level.all (is-one h) in
        has-sum h both (omega (arith, l, s))

    is-listed : (h : List Move) → Contains both h → IsHistory (replaying r) h × (length h ≡ n)
    is-listed h c =
        let l = sum-has h both c in
        let s = level.all (is-one h) in
        no-other r n h (has-sum h (histories_of r n) (omega (arith, l, s)))

    ends-once : AreOnce ends
    ends-once =
        once-end (all_members cs) ends
        (sum-once both (λ h. let l = once-sum h (histories_of r n) (once-histories r n) in let s = level.all (is-one h) in omega (arith, l, s)))

    end-is : (h : List Move) → Contains ends h → IsWhole r h × (length h ≡ n)
    end-is h c =
        let is = is-listed h (Contains-append_right (all_members cs) ends h c) in
        ((is.0, all-has (IsEnd r) ends h level.end c), is.1)

    -- of a class that is no end, no history is whole
    not-whole : All (λ (c : Merged). IsEnd r c.shows → ⊥) cs → (h : List Move) → IsWhole r h → Contains (all_members cs) h → ⊥
    not-whole go h whole c =
        let found = of-flat (λ (d : Merged). d.members) cs h c in
        let d = found.0 in
        let is = all-has (IsMerged tells r n) cs d level.merged found.1.0 in
        let next = all-has (λ (k : List Move). next_behind r k ≡ next_behind r d.shows) d.members h (merged-next tells r on race n d is) found.1.1 in
        all-has (λ (x : Merged). IsEnd r x.shows → ⊥) cs d go found.1.0 (sym next ∙ whole.1)

  more-found : (n : ℕ) (cs : List Merged) (ends found : List (List Move)) → AreFound r n found → IsLevel tells r n cs ends
      → All (λ (c : Merged). IsEnd r c.shows → ⊥) cs → AreFound r (suc n) (found ++ ends)
  more-found n cs ends found are level go =
      record {
        every = λ h whole l. every h whole (less-or (length h) n l);
        whole = all-both (λ (h : List Move). IsWhole r h × (length h < suc n)) found ends
            (all-of (λ (h : List Move). IsWhole r h × (length h < suc n)) found (λ h c. let is = all-has (λ (k : List Move). IsWhole r k × (length k < n)) found h are.whole c in (is.0, (let l = is.1 in omega (arith, l)))))
            (all-of (λ (h : List Move). IsWhole r h × (length h < suc n)) ends (λ h c. let is = end-is n cs ends level h c in (is.0, (let l = is.1 in omega (arith, l)))));
        once = both-once found ends are.once (ends-once n cs ends level)
            (λ h i j.
            let f = (all-has (λ (k : List Move). IsWhole r k × (length k < n)) found h are.whole i).1 in
            let e = (end-is n cs ends level h j).1 in
            omega (arith, f, e));
      }
    where
      every : (h : List Move) → IsWhole r h → (length h < n) ⊎ (length h ≡ n) → Contains (found ++ ends) h
      every h whole (inl l) = Contains-append_left found ends h (are.every h whole l)
      every h whole (inr e) = by (Contains-append_cases (all_members cs) ends h (listed-in n cs ends level h whole.0 e))
        where
          by : Contains (all_members cs) h ⊎ Contains ends h → Contains (found ++ ends) h
          by (inl i) = absurd (not-whole n cs ends level go h whole i)
          by (inr j) = Contains-append_right found ends h j

  -- a history of so many moves and more has a front of so many
  front : (n : ℕ) (h : List Move) → n < length h → IsHistory (replaying r) h → (m : Move) × ((k : List Move) × (IsHistory (replaying r) (m ∷ k) × (length k ≡ n)))
  front n [] l is = absurd (omega (arith, l))
  front n (m ∷ h) l is = by (less-or n (length h) (omega (arith, l))) (λ k. front n h k is.1)
    where
      by : (n < length h) ⊎ (n ≡ length h) → (n < length h → (o : Move) × ((k : List Move) × (IsHistory (replaying r) (o ∷ k) × (length k ≡ n)))) → (o : Move) × ((k : List Move) × (IsHistory (replaying r) (o ∷ k) × (length k ≡ n)))
      by (inl k) ih = ih k
      by (inr e) ih = (m, (h, (is, sym e)))

  three-ways : (a n : ℕ) → (a < n) ⊎ ((a ≡ n) ⊎ (n < a))
  three-ways zero zero = inr (inl refl)
  three-ways zero (suc n) = inl (omega arith)
  three-ways (suc a) zero = inr (inr (omega arith))
  three-ways (suc a) (suc n) = by (three-ways a n)
    where
      by : (a < n) ⊎ ((a ≡ n) ⊎ (n < a)) → (suc a < suc n) ⊎ ((suc a ≡ suc n) ⊎ (suc n < suc a))
      by (inl l) = inl (omega (arith, l))
      by (inr (inl e)) = inr (inl (ap suc e))
      by (inr (inr g)) = inr (inr (omega (arith, g)))

  all-found : (n : ℕ) (ends found : List (List Move)) → AreFound r n found → IsLevel tells r n [] ends → (h : List Move) → IsWhole r h → Contains (found ++ ends) h
  all-found n ends found are level h whole = by (three-ways (length h) n)
    where
      by : (length h < n) ⊎ ((length h ≡ n) ⊎ (n < length h)) → Contains (found ++ ends) h
      by (inl l) = Contains-append_left found ends h (are.every h whole l)
      by (inr (inl e)) = Contains-append_right found ends h (listed-in n [] ends level h whole.0 e)
      by (inr (inr g)) =
          let f = front n h g whole.0 in
          let m = f.0 in
          let k = f.1.0 in
          let is = f.1.1.0 in
          let end : next_behind r k ≡ [] = all-has (IsEnd r) ends k level.end (listed-in n [] ends level k is.1 f.1.1.1) in
          absurd (none m (subst (λ (ms : List Move). Contains ms m) end ((lists-next r (state_after (replaying r) k) m).0 is.0)))

pub levels-of-merged-find-all : LevelsOfMergedFindAll
levels-of-merged-find-all tells r on race = record { more = more-found tells r on race; all = all-found tells r on race }
