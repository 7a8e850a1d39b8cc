-- Histories of a race level by level, all of one level as long, where those that come alike are put together: one
-- history stands for them, and how many they are.
-- r is a race, n a number of moves, c and d are classes, hs and h are histories, m is a move.
use Rattle.std.specs.Prelude.{ℕ, zero, suc, ◌≡◌, ◌≢◌, ◌+◌, ◌*◌, Bool, true, if◌then◌else◌, List, [], ◌∷◌, length, map, sum_by, Contains}
use Rattle.std.specs.List.{All, AllPairs, flat_map}
use Rattle.law_explore.specs.declared.moves.Move.{Move}
use Rattle.law_explore.specs.Search.{IsHistory}
use Rattle.law_explore.specs.Races.{Race, replaying, IsRace}
use Rattle.law_explore.specs.Outcome.{outcome_after}
use Rattle.law_explore.specs.Positions.{ComeAlike, next_behind}

-- all histories of so many moves
abbrev pub histories_of : Race → ℕ → List (List Move)
histories_of r zero = [] ∷ []
histories_of r (suc n) =
    flat_map (λ (h : List Move). map (λ (m : Move). m ∷ h) (next_behind r h)) (histories_of r n)

-- a history, and how many it stands for, itself among them
pub record Class : Type 0 where
  pub shows : List Move
  pub stands_for : ℕ

module _ (r : Race) (same : List Move → List Move → Bool) where
  -- Which histories are put together is left open, as equal keys may tell it; but they have to come alike.
  abbrev pub TellsAlike : Type 0
  TellsAlike =
      (h k : List Move) → IsHistory (replaying r) h → IsHistory (replaying r) k → same h k ≡ true → ComeAlike r h k

  -- one more: it is put to the first that is the same, or is a class of its own
  abbrev pub with_class : Class → List Class → List Class
  with_class c [] = c ∷ []
  with_class c (d ∷ ds) =
      if same c.shows d.shows then record { shows = d.shows; stands_for = d.stands_for + c.stands_for } ∷ ds
      else d ∷ with_class c ds

  abbrev pub with_classes : List Class → List Class → List Class
  with_classes [] ds = ds
  with_classes (c ∷ cs) ds = with_classes cs (with_class c ds)

  -- the history goes on by each move that may come
  abbrev pub gone_on : Class → List Class
  gone_on c =
      map (λ (m : Move). record { shows = m ∷ c.shows; stands_for = c.stands_for }) (next_behind r c.shows)

  -- the classes of so many moves
  abbrev pub level : ℕ → List Class
  level zero = record { shows = []; stands_for = 1 } ∷ []
  level (suc n) = with_classes (flat_map gone_on (level n)) []

-- what is asked of a history has one answer for all that come alike
abbrev pub IsOneOfAlike : Race → (List Move → ℕ) → Type 0
IsOneOfAlike r ask =
    (h k : List Move) → IsHistory (replaying r) h → IsHistory (replaying r) k → ComeAlike r h k → ask h ≡ ask k

-- a class whose history comes alike: so it comes to the same outcome, and the same moves may come behind it, none where
-- none may
pub record HasClass (r : Race) (cs : List Class) (h : List Move) : Type 0 where
  pub class : Class
  pub listed : Contains cs class
  pub alike : ComeAlike r class.shows h
  pub comes : outcome_after r class.shows ≡ outcome_after r h
  pub next : next_behind r class.shows ≡ next_behind r h

-- The classes show histories as long as that, and each such history has its class. And whatever is one for all that
-- come alike, its sum over the classes, each as often as it stands for one, is its sum over all histories: so are they
-- counted, all of them, those that are whole, or those that come to an outcome.
pub record StandForAll (r : Race) (cs : List Class) (n : ℕ) : Type 0 where
  pub histories : All (λ (c : Class). IsHistory (replaying r) c.shows × (length c.shows ≡ n)) cs
  pub every : (h : List Move) → IsHistory (replaying r) h → length h ≡ n → HasClass r cs h
  pub sums : (ask : List Move → ℕ) → IsOneOfAlike r ask →
      sum_by (λ (c : Class). c.stands_for * ask c.shows) cs ≡ sum_by ask (histories_of r n)

-- each history of so many moves is listed, once, and no other
pub record ListsHistories (r : Race) (n : ℕ) : Type 0 where
  pub every : (h : List Move) → IsHistory (replaying r) h → length h ≡ n → Contains (histories_of r n) h
  pub no_other : (h : List Move) → Contains (histories_of r n) h → IsHistory (replaying r) h × (length h ≡ n)
  pub once : AllPairs (λ (h k : List Move). h ≢ k) (histories_of r n)

abbrev pub HistoriesAreListed : Type 0
HistoriesAreListed = (r : Race) (n : ℕ) → ListsHistories r n

abbrev pub LevelsStandForAll : Type 0
LevelsStandForAll =
    (r : Race) (same : List Move → List Move → Bool) (n : ℕ) → IsRace r → TellsAlike r same →
    StandForAll r (level r same n) n
