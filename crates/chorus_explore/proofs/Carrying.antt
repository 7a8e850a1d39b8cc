-- How many moves a search has carried out.
-- r is a race, c a scenario, asked is what is asked of a search, n a number of moves, s is one, e what it came to, cs are classes with
-- their members.
use Rattle.std.proofs.Common.{ℕ, zero, suc, ◌≡◌, ◌+◌, ◌<◌, ◌≤◌, Bool, true, false, List, [], ◌∷◌, length, take, drop, sum_by, Some, slice_get, ◌⊎◌, inl, inr, refl, sym, ◌∙◌, ap, subst, arith}
use Rattle.std.specs.List.{All, Contains}
use Rattle.std.proofs.lemmas.Bool.{cases_lt, false≢true}
use Rattle.std.proofs.lemmas.List.Elements.{All-nil, All-cons}
use Rattle.std.proofs.lemmas.List.Sums.{sum_by-cons}
use Rattle.law_explore.specs.declared.moves.Move.{Move}
use Rattle.law_explore.specs.Levels.{histories_of}
use Rattle.law_explore.specs.Members.{Merged, IsLevel}
use Rattle.law_explore.specs.Positions.{next_behind}
use Rattle.law_explore.specs.Search.{IsHistory}
use Rattle.law_explore.specs.Races.{Race, replaying}
use Rattle.law_explore.proofs.Histories.{are-listed}
use Rattle.law_explore.proofs.Members.{levels-of-merged-go-on}
use Rattle.law_explore.proofs.Searching.{none}
use Rattle.law_replay.specs.Shown.{race_of}
use Rattle.chorus_scene.specs.Scene.{Scene}
use Rattle.explore_report.specs.declared.explored.Explored.{Explored}
use Rattle.chorus_explore.specs.declared.level_search.Asked.{Asked}
use Rattle.chorus_explore.specs.declared.level_search.Class.{Class}
use Rattle.chorus_explore.specs.declared.level_search.Search.{Search}
use Rattle.chorus_explore.specs.Classes.{StandFor, moves_from, shown_by}
use Rattle.chorus_explore.specs.Events.{AreLevels, CarriesOut, GoOnFrom, all_moves, moves_behind}
use Rattle.chorus_explore.specs.Searches.{IsWithin, asks_of}
use Rattle.chorus_explore.specs.Tellings.{tells_of}
use Rattle.chorus_explore.proofs.Alike.{tells-on}
use Rattle.chorus_explore.proofs.Racing.{is-race}
use Rattle.chorus_explore.proofs.Searching.{is-level, none-merged, some-is}

-- A sum over a list, by its place.

module _ {X : Type 0} (ask : X → ℕ) where
  pub sum-more : (xs : List X) (i : ℕ) (x : X) → slice_get xs i ≡ Some x → sum_by ask (take (i + 1) xs) ≡ sum_by ask (take i xs) + ask x
  sum-more xs i x e = (let one : i + 1 ≡ suc i = omega arith in ap (λ (k : ℕ). sum_by ask (take k xs)) one ∙ by xs i e)
    where
      by : (ys : List X) (k : ℕ) → slice_get ys k ≡ Some x → sum_by ask (take (suc k) ys) ≡ sum_by ask (take k ys) + ask x
      by [] k g = absurd (cc)
      by (y ∷ ys) zero g =
          let a = sum_by-cons ask y [] in
          let b : ask y ≡ ask x = ap ask (some-is y x g) in
          omega (arith, a, b)
      by (y ∷ ys) (suc k) g =
          let a = sum_by-cons ask y (take (suc k) ys) in
          let b = sum_by-cons ask y (take k ys) in
          let e = by ys k g in
          omega (arith, a, b, e)

  -- and there is no less in all
  pub sum-within : (xs : List X) (i : ℕ) (x : X) → slice_get xs i ≡ Some x → sum_by ask (take i xs) + ask x ≤ sum_by ask xs
  sum-within [] i x g = absurd (cc)
  sum-within (y ∷ ys) zero x g =
      let a = sum_by-cons ask y ys in
      let b : ask y ≡ ask x = ap ask (some-is y x g) in
      omega (arith, a, b)
  sum-within (y ∷ ys) (suc k) x g =
      let a = sum_by-cons ask y (take k ys) in
      let b = sum_by-cons ask y ys in
      let e = sum-within ys k x g in
      omega (arith, a, b, e)

  pub sum-all : (xs : List X) (i : ℕ) → length xs ≤ i → sum_by ask (take i xs) ≡ sum_by ask xs
  sum-all [] i le = ap (sum_by ask) (take-nil i)
    where
      take-nil : (k : ℕ) → take {A = X} k [] ≡ []
      take-nil zero = refl
      take-nil (suc k) = refl
  sum-all (y ∷ ys) zero le = absurd (omega (arith, le))
  sum-all (y ∷ ys) (suc k) le =
      let a = sum_by-cons ask y (take k ys) in
      let b = sum_by-cons ask y ys in
      let e = sum-all ys k (omega (arith, le)) in
      omega (arith, a, b, e)

-- A class goes on by as many moves as its members.

moves-the-same : (asks : Bool) (c : Scene) (n : ℕ) (classes : List Class) (cs : List Merged) → StandFor asks (race_of c) n classes cs → moves_from c classes ≡ moves_behind (race_of c) cs
moves-the-same asks c n [] [] h = refl
moves-the-same asks c n [] (m ∷ cs) h = absurd h
moves-the-same asks c n (k ∷ classes) [] h = absurd h
moves-the-same asks c n (k ∷ classes) (m ∷ cs) h =
    let a = sum_by-cons (λ (class : Class). length (next_behind (race_of c) (shown_by class))) k classes in
    let b = sum_by-cons (λ (m : Merged). length (next_behind (race_of c) m.shows)) m cs in
    let one : length (next_behind (race_of c) m.shows) ≡ length (next_behind (race_of c) (shown_by k)) = ap (λ (h : List Move). length (next_behind (race_of c) h)) h.0.shows in
    let rest = moves-the-same asks c n classes cs h.1 in
    omega (arith, a, b, one, rest)

all-among : (asks : Bool) (r : Race) (n : ℕ) (classes : List Class) (cs : List Merged) → StandFor asks r n classes cs → All (λ (m : Merged). Contains m.members m.shows) cs
all-among asks r n [] [] h = All-nil (λ (m : Merged). Contains m.members m.shows)
all-among asks r n [] (m ∷ cs) h = absurd h
all-among asks r n (k ∷ classes) [] h = absurd h
all-among asks r n (k ∷ classes) (m ∷ cs) h = All-cons (λ (m : Merged). Contains m.members m.shows) m cs h.0.among (all-among asks r n classes cs h.1)

-- The levels below this one were gone on from.
pub record HasCarried (asks : Bool) (r : Race) (n : ℕ) (e : Explored) : Type 0 where
  pub levels : List (List Merged)
  pub are : AreLevels asks r levels
  pub below : length levels ≡ n
  pub all : e.events ≡ all_moves r levels

pub none-carried : (asks : Bool) (r : Race) (e : Explored) → e.events ≡ 0 → HasCarried asks r 0 e
none-carried asks r e none = record { levels = []; are = tt; below = refl; all = none }

-- where no class is left, no history is longer

some-listed : (hs : List (List Move)) (h : List Move) → Contains hs h → 1 ≤ sum_by (λ (k : List Move). 1) hs
some-listed [] h i = absurd (none h i)
some-listed (k ∷ hs) h i = (let a = sum_by-cons (λ (k : List Move). 1) k hs in omega (arith, a))

none-longer : (asks : Bool) (c : Scene) (n : ℕ) (ends : List (List Move)) → IsLevel (tells_of asks) (race_of c) n [] ends → (h : List Move) → IsHistory (replaying (race_of c)) h → length h ≤ n
none-longer asks c n ends level [] is = omega arith
none-longer asks c n ends level (m ∷ t) is = by (none-longer asks c n ends level t is.1) (cases_lt (length t) n)
  where
    by : length t ≤ n → (length t < n) ⊎ (n ≤ length t) → length (m ∷ t) ≤ n
    by before (inl lt) = omega (arith, lt)
    by before (inr le) =
        let long : length (m ∷ t) ≡ suc n = omega (arith, before, le) in
        let none = (levels-of-merged-go-on (tells_of asks) (race_of c) (tells-on asks) (is-race c)).1 n [] ends level (λ (k : List Move). 1) in
        let some = some-listed (histories_of (race_of c) (suc n)) (m ∷ t) (are-listed (race_of c) (suc n) (m ∷ t) is long) in
        absurd (omega (arith, none, some))

less-behind : (r : Race) (levels : List (List Merged)) → all_moves r (drop 1 levels) ≤ all_moves r levels
less-behind r [] = omega arith
less-behind r (cs ∷ levels) = (let a = sum_by-cons (λ (cs : List Merged). moves_behind r cs) cs levels in omega (arith, a))

module _ (c : Scene) (asked : Asked) (n : ℕ) (s : Search) (w : IsWithin c asked n [] s) (so-far : HasCarried (asks_of asked) (race_of c) n s.explored) where
  abbrev r : Race
  r = race_of c

  abbrev on : List (List Merged)
  on = w.merged ∷ so-far.levels

  goes-on : GoOnFrom (asks_of asked) (race_of c) n w.merged
  goes-on = record { ends = w.ends; level = is-level c asked n s w; among = all-among (asks_of asked) r n s.next.items w.merged w.stand; go_on = w.go_on }

  all-are : AreLevels (asks_of asked) (race_of c) on
  all-are = (subst (λ (k : ℕ). GoOnFrom (asks_of asked) (race_of c) k w.merged) (sym so-far.below) goes-on, so-far.are)

  one-more : all_moves (race_of c) on ≡ moves_from c s.next.items + all_moves (race_of c) so-far.levels
  one-more =
      let a = sum_by-cons (λ (cs : List Merged). moves_behind (race_of c) cs) w.merged so-far.levels in
      let b = moves-the-same (asks_of asked) c n s.next.items w.merged w.stand in
      omega (arith, a, b)

  -- all of this level were carried out
  pub carried-on : (e : Explored) → e.events ≡ s.explored.events + moves_from c s.next.items → HasCarried (asks_of asked) (race_of c) (suc n) e
  carried-on e events = record {
    levels = on;
    are = all-are;
    below = ap suc so-far.below;
    all = (let a = one-more in let b = so-far.all in omega (arith, a, b, events));
  }

  -- or some of them
  pub carried-some : (e : Explored) → e.is_cut ≡ true → e.bound ≡ suc n → s.explored.events ≤ e.events → e.events ≤ s.explored.events + moves_from c s.next.items → CarriesOut (asks_of asked) (race_of c) e
  carried-some e cut bound least most = record {
    levels = on;
    are = all-are;
    below = ap suc so-far.below ∙ sym bound;
    least = (let b = so-far.all in omega (arith, b, least));
    most = (let a = one-more in let b = so-far.all in omega (arith, a, b, most));
    all = λ uncut. absurd (false≢true (sym uncut ∙ cut));
    last = λ uncut. absurd (false≢true (sym uncut ∙ cut));
  }

  -- and where it is not cut off none is left
  pub carried-all : (e : Explored) → e.events ≡ s.explored.events → e.bound ≡ s.explored.bound → (e.is_cut ≡ false → s.next.items ≡ []) → CarriesOut (asks_of asked) (race_of c) e
  carried-all e events bound left = record {
    levels = so-far.levels;
    are = so-far.are;
    below = so-far.below ∙ sym w.bound ∙ sym bound;
    least = (let a = so-far.all in let b = less-behind r so-far.levels in omega (arith, a, b, events));
    most = (let a = so-far.all in omega (arith, a, events));
    all = λ uncut. (let a = so-far.all in omega (arith, a, events));
    last = λ uncut h is.
        (let nothing = none-merged c asked n s w s.next.items w.merged w.stand (left uncut) in
        let level = subst (λ cs. IsLevel (tells_of (asks_of asked)) (race_of c) n cs w.ends) nothing (is-level c asked n s w) in
        let within = none-longer (asks_of asked) c n w.ends level h is in
        let b = w.bound in
        omega (arith, within, b, bound));
  }
