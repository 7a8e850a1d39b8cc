-- Classes of histories that come alike, with those for which they stand, level by level.
-- r is a race, c and d are classes, cs a list of them, h and k are histories, hs lists of them, m is a move, ms are moves.
use Rattle.std.proofs.Common.{ℕ, suc, ◌≡◌, ◌+◌, List, [], ◌∷◌, ◌++◌, length, map, sum_by, refl, sym, ◌∙◌, ap, arith}
use Rattle.std.specs.List.{All, Contains, flat_map}
use Rattle.std.proofs.lemmas.List.Elements.{All-nil, All-cons, All-head, All-tail}
use Rattle.std.proofs.lemmas.List.Sums.{sum_by-cons, sum_by-append}
use Rattle.law_explore.specs.declared.moves.Move.{Move}
use Rattle.law_explore.specs.Search.{state_after}
use Rattle.law_explore.specs.Races.{Race, Position, replaying, IsRace}
use Rattle.law_explore.specs.Positions.{next_behind}
use Rattle.law_explore.specs.Levels.{histories_of}
use Rattle.law_explore.specs.Merging.{Telling, TellsOn, ComeToldAlike}
use Rattle.law_explore.specs.Members.{Merged, all_members, going_by, going_on, with_move, next_members, IsEnd, IsMember, IsMerged, LevelsGoOn, LevelsOfMergedGoOn}
use Rattle.law_explore.proofs.Exploring.{lists-next}
use Rattle.law_explore.proofs.Merging.{joined-told, told-more, told-next}

-- Lists.

module _ {X : Type 0} (P Q : X → Type 0) where
  all-by : (xs : List X) → ((x : X) → P x → Q x) → All P xs → All Q xs
  all-by [] f h = All-nil Q
  all-by (x ∷ xs) f h = All-cons Q x xs (f x (All-head P x xs h)) (all-by xs f (All-tail P x xs h))

all-both : {X : Type 0} (P : X → Type 0) (xs ys : List X) → All P xs → All P ys → All P (xs ++ ys)
all-both P [] ys h f = f
all-both P (x ∷ xs) ys h f = All-cons P x (xs ++ ys) (All-head P x xs h) (all-both P xs ys (All-tail P x xs h) f)

all-map : {X Y : Type 0} (P : Y → Type 0) (f : X → Y) (xs : List X) → All (λ (x : X). P (f x)) xs → All P (map f xs)
all-map P f [] h = All-nil P
all-map P f (x ∷ xs) h =
    All-cons P (f x) (map f xs) (All-head (λ x. P (f x)) x xs h) (all-map P f xs (All-tail (λ x. P (f x)) x xs h))

-- Sums.

sum-none : {X : Type 0} (xs : List X) → sum_by (λ (x : X). 0) xs ≡ 0
sum-none [] = refl
sum-none (x ∷ xs) = let a = sum_by-cons (λ x. 0) x xs in let b = sum-none xs in omega (arith, a, b)

sum-plus : {X : Type 0} (f g : X → ℕ) (xs : List X) → sum_by (λ (x : X). f x + g x) xs ≡ sum_by f xs + sum_by g xs
sum-plus f g [] = refl
sum-plus f g (x ∷ xs) =
    let a = sum_by-cons (λ x. f x + g x) x xs in
    let b = sum_by-cons f x xs in
    let c = sum_by-cons g x xs in
    let e = sum-plus f g xs in
    omega (arith, a, b, c, e)

sum-same : {X : Type 0} (f g : X → ℕ) (xs : List X) → All (λ (x : X). f x ≡ g x) xs → sum_by f xs ≡ sum_by g xs
sum-same f g [] h = refl
sum-same f g (x ∷ xs) h =
    sum_by-cons f x xs
    ∙ (λ i. All-head (λ x. f x ≡ g x) x xs h i + sum-same f g xs (All-tail (λ x. f x ≡ g x) x xs h) i)
    ∙ sym (sum_by-cons g x xs)

sum-flat : {X Y : Type 0} (f : Y → ℕ) (g : X → List Y) (xs : List X) → sum_by f (flat_map g xs) ≡ sum_by (λ (x : X). sum_by f (g x)) xs
sum-flat f g [] = refl
sum-flat f g (x ∷ xs) =
    sum_by-append f (g x) (flat_map g xs)
    ∙ ap (λ n. sum_by f (g x) + n) (sum-flat f g xs)
    ∙ sym (sum_by-cons (λ x. sum_by f (g x)) x xs)

sum-map : {X Y : Type 0} (f : Y → ℕ) (g : X → Y) (xs : List X) → sum_by f (map g xs) ≡ sum_by (λ (x : X). f (g x)) xs
sum-map f g [] = refl
sum-map f g (x ∷ xs) =
    sum_by-cons f (g x) (map g xs) ∙ ap (λ n. f (g x) + n) (sum-map f g xs) ∙ sym (sum_by-cons (λ x. f (g x)) x xs)

sum-swap : {X Y : Type 0} (f : X → Y → ℕ) (xs : List X) (ys : List Y) → sum_by (λ (x : X). sum_by (f x) ys) xs ≡ sum_by (λ (y : Y). sum_by (λ (x : X). f x y) xs) ys
sum-swap f [] ys = sym (sum-none ys)
sum-swap f (x ∷ xs) ys =
    sum_by-cons (λ x. sum_by (f x) ys) x xs
    ∙ ap (λ n. sum_by (f x) ys + n) (sum-swap f xs ys)
    ∙ sym (sum-plus (f x) (λ y. sum_by (λ z. f z y) xs) ys)
    ∙ ap (λ g. sum_by g ys) (λ i y. sym (sum_by-cons (λ z. f z y) x xs) i)

module _ (tells : Telling) (r : Race) (on : TellsOn tells) (race : IsRace r) where
  abbrev at : List Move → Position
  at h = state_after (replaying r) h

  abbrev count : ℕ
  count = length r.scripts

  -- One class.

  one-on : (n : ℕ) (shows : List Move) (m : Move) → Contains (next_behind r shows) m → (h : List Move) → IsMember tells r n shows h → IsMember tells r (suc n) (m ∷ shows) (m ∷ h)
  one-on n shows m listed h is =
      let may = (lists-next r (at shows) m).1 listed in
      let next = told-more tells on r race shows h m is.history is.alike may in
      record { history = (next.0, is.history); long = ap suc is.long; alike = next.1 }

  merged-on : (n : ℕ) (c : Merged) (m : Move) → IsMerged tells r n c → Contains (next_behind r c.shows) m → IsMerged tells r (suc n) (with_move m c)
  merged-on n c m h listed =
      record {
        history = ((lists-next r (at c.shows) m).1 listed, h.history);
        long = ap suc h.long;
        members = all-map (IsMember tells r (suc n) (m ∷ c.shows)) (λ (k : List Move). m ∷ k) c.members
            (all-by (IsMember tells r n c.shows) (λ (k : List Move). IsMember tells r (suc n) (m ∷ c.shows) (m ∷ k)) c.members (one-on n c.shows m listed) h.members);
      }

  merged-join : (n : ℕ) (c d : Merged) → IsMerged tells r n c → IsMerged tells r n d → ComeToldAlike tells r d.shows c.shows
      → IsMerged tells r n (record { shows = d.shows; members = d.members ++ c.members })
  merged-join n c d h f alike =
      record {
        history = f.history;
        long = f.long;
        members = all-both (IsMember tells r n d.shows) d.members c.members f.members
            (all-by (IsMember tells r n c.shows) (IsMember tells r n d.shows) c.members
            (λ k is. record { history = is.history; long = is.long; alike = joined-told tells count (at d.shows) (at c.shows) (at k) alike is.alike }) h.members);
      }

  pub merged-next : (n : ℕ) (c : Merged) → IsMerged tells r n c → All (λ (h : List Move). next_behind r h ≡ next_behind r c.shows) c.members
  merged-next n c h =
      all-by (IsMember tells r n c.shows) (λ (k : List Move). next_behind r k ≡ next_behind r c.shows) c.members
      (λ k is. told-next tells on r race c.shows k h.history is.history is.alike) h.members

  -- A level.

  module _ (ask : List Move → ℕ) where
    abbrev ask_on : List Move → ℕ
    ask_on h = sum_by (λ (m : Move). ask (m ∷ h)) (next_behind r h)

    sum-histories : (hs : List (List Move)) → sum_by ask (flat_map (λ (h : List Move). map (λ (m : Move). m ∷ h) (next_behind r h)) hs) ≡ sum_by ask_on hs
    sum-histories hs =
        sum-flat ask (λ (h : List Move). map (λ (m : Move). m ∷ h) (next_behind r h)) hs
        ∙ ap (λ g. sum_by g hs) (λ i h. sum-map ask (λ (m : Move). m ∷ h) (next_behind r h) i)

    class-on : (n : ℕ) (c : Merged) → IsMerged tells r n c → sum_by ask (going_on (next_behind r c.shows) c.members) ≡ sum_by ask_on c.members
    class-on n c is =
        sum-flat ask (λ (m : Move). going_by m c.members) (next_behind r c.shows)
        ∙ ap (λ g. sum_by g (next_behind r c.shows)) (λ i m. sum-map ask (λ (h : List Move). m ∷ h) c.members i)
        ∙ sum-swap (λ m h. ask (m ∷ h)) (next_behind r c.shows) c.members
        ∙ sum-same (λ (h : List Move). sum_by (λ (m : Move). ask (m ∷ h)) (next_behind r c.shows)) ask_on c.members
        (all-by (λ (h : List Move). next_behind r h ≡ next_behind r c.shows) (λ (h : List Move). sum_by (λ (m : Move). ask (m ∷ h)) (next_behind r c.shows) ≡ ask_on h) c.members
        (λ h e. ap (sum_by (λ (m : Move). ask (m ∷ h))) (sym e)) (merged-next n c is))

    classes-on : (n : ℕ) (cs : List Merged) → All (IsMerged tells r n) cs → sum_by ask (next_members r cs) ≡ sum_by ask_on (all_members cs)
    classes-on n [] is = refl
    classes-on n (c ∷ cs) is =
        sum_by-append ask (going_on (next_behind r c.shows) c.members) (next_members r cs)
        ∙ (λ i. class-on n c (All-head (IsMerged tells r n) c cs is) i + classes-on n cs (All-tail (IsMerged tells r n) c cs is) i)
        ∙ sym (sum_by-append ask_on c.members (all_members cs))

    ends-on : (ends : List (List Move)) → All (IsEnd r) ends → sum_by ask_on ends ≡ 0
    ends-on ends is =
        sum-same ask_on (λ h. 0) ends (all-by (IsEnd r) (λ h. ask_on h ≡ 0) ends (λ h e. ap (sum_by (λ (m : Move). ask (m ∷ h))) e) is)
        ∙ sum-none ends

  levels-on : LevelsGoOn tells r
  levels-on n cs ends level ask =
      let rest = ends-on ask ends level.end in
      let all = level.all (ask_on ask) in
      let both = sum_by-append (ask_on ask) (all_members cs) ends in
      let classes = classes-on ask n cs level.merged in
      let listed = sum-histories ask (histories_of r n) in
      omega (arith, rest, all, both, classes, listed)

pub levels-of-merged-go-on : LevelsOfMergedGoOn
levels-of-merged-go-on tells r on race = (
  record {
    go_on = merged-on tells r on race;
    join = merged-join tells r on race;
    next = merged-next tells r on race;
  },
  levels-on tells r on race,
)
