-- Histories level by level, where those that come alike are put together, each class with the histories for which it
-- stands.
-- r is a race, tells tells of the acts that answered, n a number of moves, c and d are classes, cs a list of them, h is a
-- history, hs and ks are lists of histories, m is a move, ms are moves.
use Rattle.std.specs.Prelude.{ℕ, suc, ◌≡◌, ◌<◌, List, [], ◌∷◌, ◌++◌, length, map, sum_by, Contains}
use Rattle.std.specs.List.{All, flat_map}
use Rattle.law_explore.specs.declared.moves.Move.{Move}
use Rattle.law_explore.specs.Search.{IsHistory}
use Rattle.law_explore.specs.Races.{Race, replaying, IsRace, IsWhole}
use Rattle.law_explore.specs.Positions.{next_behind}
use Rattle.law_explore.specs.Merging.{Telling, TellsOn, ComeToldAlike}
use Rattle.law_explore.specs.Levels.{histories_of}

-- a history that is gone on from, and those for which it stands
pub record Merged : Type 0 where
  pub shows : List Move
  pub members : List (List Move)

abbrev pub all_members : List Merged → List (List Move)
all_members cs = flat_map (λ (c : Merged). c.members) cs

-- the same histories, each as often
abbrev pub SameHistories : List (List Move) → List (List Move) → Type 0
SameHistories hs ks = (ask : List Move → ℕ) → sum_by ask hs ≡ sum_by ask ks

-- each goes on by the move, or by each of the moves
abbrev pub going_by : Move → List (List Move) → List (List Move)
going_by m hs = map (λ (h : List Move). m ∷ h) hs

abbrev pub going_on : List Move → List (List Move) → List (List Move)
going_on ms hs = flat_map (λ (m : Move). going_by m hs) ms

abbrev pub with_move : Move → Merged → Merged
with_move m c = record { shows = m ∷ c.shows; members = going_by m c.members }

-- those for which a class stands go on by each move that may come behind the history that it shows
abbrev pub next_members : Race → List Merged → List (List Move)
next_members r cs = flat_map (λ (c : Merged). going_on (next_behind r c.shows) c.members) cs

-- nothing may come behind the history
abbrev pub IsEnd : Race → List Move → Type 0
IsEnd r h = next_behind r h ≡ []

module _ (tells : Telling) where
  pub record IsMember (r : Race) (n : ℕ) (shows h : List Move) : Type 0 where
    pub history : IsHistory (replaying r) h
    pub long : length h ≡ n
    pub alike : ComeToldAlike tells r shows h

  pub record IsMerged (r : Race) (n : ℕ) (c : Merged) : Type 0 where
    pub history : IsHistory (replaying r) c.shows
    pub long : length c.shows ≡ n
    pub members : All (IsMember r n c.shows) c.members

  -- a class goes on by a move; two are put together that come alike; and behind all for which one stands the same may
  -- come
  pub record MergedStayMerged (r : Race) : Type 0 where
    pub go_on : (n : ℕ) (c : Merged) (m : Move) → IsMerged r n c → Contains (next_behind r c.shows) m →
        IsMerged r (suc n) (with_move m c)
    pub join : (n : ℕ) (c d : Merged) → IsMerged r n c → IsMerged r n d → ComeToldAlike tells r d.shows c.shows →
        IsMerged r n (record { shows = d.shows; members = d.members ++ c.members })
    pub next : (n : ℕ) (c : Merged) → IsMerged r n c →
        All (λ (h : List Move). next_behind r h ≡ next_behind r c.shows) c.members

  -- Of a level, the classes and the ends stand for all histories that are as long. So do all that go on from the
  -- classes, for those that are longer by one.
  pub record IsLevel (r : Race) (n : ℕ) (cs : List Merged) (ends : List (List Move)) : Type 0 where
    pub merged : All (IsMerged r n) cs
    pub end : All (IsEnd r) ends
    pub all : SameHistories (all_members cs ++ ends) (histories_of r n)

  abbrev pub LevelsGoOn : Race → Type 0
  LevelsGoOn r =
      (n : ℕ) (cs : List Merged) (ends : List (List Move)) → IsLevel r n cs ends →
      SameHistories (next_members r cs) (histories_of r (suc n))

-- each stands once
abbrev pub AreOnce : List (List Move) → Type 0
AreOnce [] = Unit {0}
AreOnce (h ∷ hs) = (Contains hs h → ⊥) × AreOnce hs

-- all whole histories of less than so many moves, each once, and no other
pub record AreFound (r : Race) (n : ℕ) (found : List (List Move)) : Type 0 where
  pub every : (h : List Move) → IsWhole r h → length h < n → Contains found h
  pub whole : All (λ (h : List Move). IsWhole r h × (length h < n)) found
  pub once : AreOnce found

-- With the ends of a level, of which no class is an end, those are found that have a move more. Where no class is left,
-- they are all whole histories.
pub record LevelsAreFound (tells : Telling) (r : Race) : Type 0 where
  pub more : (n : ℕ) (cs : List Merged) (ends found : List (List Move)) → AreFound r n found →
      IsLevel tells r n cs ends → All (λ (c : Merged). IsEnd r c.shows → ⊥) cs → AreFound r (suc n) (found ++ ends)
  pub all : (n : ℕ) (ends found : List (List Move)) → AreFound r n found → IsLevel tells r n [] ends →
      (h : List Move) → IsWhole r h → Contains (found ++ ends) h

abbrev pub LevelsOfMergedFindAll : Type 0
LevelsOfMergedFindAll =
    (tells : Telling) (r : Race) → TellsOn tells → IsRace r → LevelsAreFound tells r

abbrev pub LevelsOfMergedGoOn : Type 0
LevelsOfMergedGoOn =
    (tells : Telling) (r : Race) → TellsOn tells → IsRace r → MergedStayMerged tells r × LevelsGoOn tells r
