-- A search, and what it came to.
-- c is a scenario, asked is what is asked of a search, n a number of moves, hs, found and pending are histories, s is a
-- search, old and new before and after, e what it came to.
use Rattle.std.specs.Prelude.{ℕ, ◌≡◌, ◌<◌, ◌≤◌, ◌⊎◌, Bool, true, false, not, List, [], ◌++◌, length, Option, Result, Ok, IfSome, Contains}
use Rattle.std.specs.List.{All}
use Rattle.chorus_place.specs.declared.fault.PlaceFault.{PlaceFault}
use Rattle.law_explore.specs.declared.moves.Move.{Move}
use Rattle.law_explore.specs.Explores.{told_number}
use Rattle.law_explore.specs.Levels.{histories_of}
use Rattle.law_explore.specs.Members.{Merged, all_members, SameHistories, IsEnd, AreFound, AreOnce}
use Rattle.law_explore.specs.Search.{IsHistory}
use Rattle.law_explore.specs.Races.{Race, IsWhole, replaying}
use Rattle.law_replay.specs.Shown.{race_of}
use Rattle.chorus_scene.specs.Scene.{Scene}
use Rattle.chorus_scene.specs.declared.limits.TheConstants.{STEPS_LIMIT}
use Rattle.explore_report.specs.declared.explored.Explored.{Explored}
use Rattle.chorus_claims.specs.Pieces.{Claim}
use Rattle.explore_report.specs.Findings.{AreFindings, HaveSums}
use Rattle.explore_report.specs.Judgements.{AreJudged, has_failed}
use Rattle.explore_report.specs.declared.judgements.Judgement.{Judgement}
use Rattle.chorus_explore.specs.declared.level_search.Asked.{Asked}
use Rattle.chorus_explore.specs.declared.level_search.Search.{Search}
use Rattle.chorus_explore.specs.declared.race_sites.Stage.{Stage}
use Rattle.chorus_explore.specs.Classes.{AreClasses, StandFor}
use Rattle.chorus_explore.specs.Stages.{AreSpare, IsReached, IsReachedIf, comes, facts_at}

-- These histories were found, so many, by no more events than were allowed; where outcomes are told, theirs are.
pub record HasFound (c : Scene) (asked : Asked) (found : List (List Move)) (e : Explored) : Type 0 where
  pub findings : asked.tells ≡ true → AreFindings (comes c) found e.findings.items.items
  pub histories : e.histories ≡ told_number (length found)
  pub events : e.events ≤ asked.most

-- there is a history of so many moves from which none of those found goes on
pub record LeavesOut (r : Race) (n : ℕ) (found : List (List Move)) : Type 0 where
  pub moves : List Move
  pub history : IsHistory (replaying r) moves
  pub long : length moves ≡ n
  pub out : (more : List Move) → Contains found (more ++ moves) → ⊥

-- there is a history of as many moves as a schedule may have, behind which more may come
pub record IsLong (c : Scene) : Type 0 where
  pub moves : List Move
  pub history : IsHistory (replaying (race_of c)) moves
  pub long : length moves ≡ STEPS_LIMIT
  pub goes_on : IsEnd (race_of c) moves → ⊥

-- Claims are asked where no outcomes are told. All histories of fewer than n moves were judged, and of those of n moves the
-- ones that came, among them these ends; the rest are pending.
pub record IsWatching (c : Scene) (claims : List Claim) (n : ℕ) (pending ends : List (List Move))
    (judged : List Judgement) : Type 0 where
  pub earlier : List (List Move)
  pub come : List (List Move)
  pub are : AreJudged (facts_at c) (earlier ++ come) ends claims judged
  pub short : All (λ (h : List Move). IsHistory (replaying (race_of c)) h × (length h < n)) earlier
  pub every : (h : List Move) → IsHistory (replaying (race_of c)) h → length h < n → Contains earlier h
  pub all : SameHistories (come ++ pending) (histories_of (race_of c) n)

abbrev pub asks_of : Asked → Bool
asks_of asked = not asked.tells

abbrev pub Watches : Scene → Asked → ℕ → List (List Move) → List (List Move) → Explored → Type 0
Watches c asked n pending ends e =
    asks_of asked ≡ true → IsWatching c asked.claims.now n pending ends e.judged.items

-- nothing is left to be found: no outcome is told, and each claim has failed
pub record IsSettled (asked : Asked) (e : Explored) : Type 0 where
  pub untold : asked.tells ≡ false
  pub failed : All (λ (j : Judgement). has_failed j ≡ true) e.judged.items

-- the search ends here
abbrev pub IsEnough : Asked → Explored → Type 0
IsEnough asked e = (asked.most ≤ e.events) ⊎ IsSettled asked e

-- why it ends before all was gone over
abbrev pub IsCut : Scene → Asked → Explored → Type 0
IsCut c asked e = ((e.events ≡ asked.most) ⊎ IsLong c) ⊎ IsSettled asked e

-- They are whole, each stands once, and none is missing that has fewer moves than the bound, which none of them goes
-- beyond; where it was not cut off they are all such. It is cut off where as many events were carried out as were allowed,
-- where there is a history that may not be gone on from, or where nothing is left to be found; then one of as many moves
-- as the bound is left out.
pub record IsOver (c : Scene) (asked : Asked) (e : Explored) : Type 0 where
  pub found : List (List Move)
  pub pending : List (List Move)
  pub has : HasFound c asked found e
  pub watched : Watches c asked e.bound pending found e
  pub none_pending : e.is_cut ≡ false → pending ≡ []
  pub whole : All (IsWhole (race_of c)) found
  pub once : AreOnce found
  pub bounded : (h : List Move) → IsWhole (race_of c) h → length h < e.bound → Contains found h
  pub within : All (λ (h : List Move). length h ≤ e.bound) found
  pub every : e.is_cut ≡ false → (h : List Move) → IsWhole (race_of c) h → Contains found h
  pub cut : e.is_cut ≡ true → IsCut c asked e
  pub out : e.is_cut ≡ true → LeavesOut (race_of c) e.bound found

-- what the steps of a search need, and keep
pub record IsReady (asks : Bool) (c : Scene) (s : Search) : Type 0 where
  pub classes : AreClasses c s.next.items
  pub sums : HaveSums s.explored.findings.items.items
  pub last : IsReachedIf asks c s.last
  pub spare : AreSpare c s.spare.items

-- Where a search is. All whole histories of less than n moves were found. Of those of n moves some were found, the
-- classes stand for others, behind which more may come, and the rest are pending.
pub record IsWithin (c : Scene) (asked : Asked) (n : ℕ) (pending : List (List Move)) (s : Search) : Type 0 where
  pub before : List (List Move)
  pub ends : List (List Move)
  pub merged : List Merged
  pub has : HasFound c asked (before ++ ends) s.explored
  pub found : AreFound (race_of c) n before
  pub whole : All (IsWhole (race_of c)) ends
  pub watched : Watches c asked n pending (before ++ ends) s.explored
  pub stand : StandFor (asks_of asked) (race_of c) n s.next.items merged
  pub go_on : All (λ (m : Merged). IsEnd (race_of c) m.shows → ⊥) merged
  pub all : SameHistories (all_members merged ++ ends ++ pending) (histories_of (race_of c) n)
  pub uncut : s.explored.is_cut ≡ false
  pub bound : s.explored.bound ≡ n

-- the pending histories come
abbrev pub Come : Scene → Asked → ℕ → List (List Move) → Search → Search → Type 0
Come c asked n hs old new =
    (pending : List (List Move)) → IsWithin c asked n (hs ++ pending) old → IsWithin c asked n pending new

-- they come, or the search is cut off
pub record GoOn (c : Scene) (asked : Asked) (n : ℕ) (hs : List (List Move)) (result : Result Bool PlaceFault)
    (old new : Search) : Type 0 where
  pub come : result ≡ Ok true → Come c asked n hs old new
  pub cut : result ≡ Ok false → (pending : List (List Move)) → IsWithin c asked n (hs ++ pending) old →
      IsOver c asked new.explored

-- the stage, if there is one, is where the moves lead
pub record LeadsTo (asks : Bool) (c : Scene) (moves : List Move) (s : Stage) : Type 0 where
  pub reached : IsReached c s
  pub moves_are : s.moves.items ≡ moves
  pub asks_are : s.asks ≡ asks

abbrev pub LeadsThere : Bool → Scene → List Move → Option Stage → Type 0
LeadsThere asks c moves there = IfSome there (LeadsTo asks c moves)
