-- The promise of `explore`.
-- c is a scenario, most is how many events may be carried out, first is from where the generator draws, text is what is told, f
-- is an outcome that is told, hs are histories.
use Rattle.std.specs.Prelude.{ℕ, ◌≡◌, ◌≤◌, ◌⊎◌, true, false, List, [], ◌++◌, length, min, map, ◌<◌, Contains}
use Rattle.std.specs.List.{All}
use Rattle.law_explore.specs.declared.moves.Move.{Move}
use Rattle.law_explore.specs.Explores.{Explores, ExploresSome, Found, told_number}
use Rattle.law_explore.specs.Races.{IsWhole}
use Rattle.law_replay.specs.Shown.{race_of}
use Rattle.chorus_scene.specs.Scene.{Scene}
use Rattle.explore_report.specs.declared.explored.Explored.{Explored}
use Rattle.explore_report.specs.Findings.{found_of}
use Rattle.explore_report.specs.Reports.{report_text}
use Rattle.chorus_explore.specs.Events.{CarriesOut}
use Rattle.chorus_explore.specs.Searches.{IsLong, LeavesOut}
use Rattle.chorus_explore.specs.DrawnOutcomes.{AreBeyond, drawn_at}
use Rattle.chorus_explore.specs.Stages.{comes}

-- of these histories none that comes to the outcome is shorter than the one that shows it; and no whole history at all is, or
-- none of fewer moves than the bound, where that is less
pub record ShowsShortest (c : Scene) (bound : ℕ) (hs : List (List Move)) (f : Found (List ℕ)) : Type 0 where
  pub of_these : All (λ (h : List Move). comes c h ≡ f.outcome → length f.shows ≤ length h) hs
  pub of_all : (ms : List Move) → IsWhole (race_of c) ms → comes c ms ≡ f.outcome →
      min (length f.shows) bound ≤ length ms

-- The text tells of some whole histories, those that were found and those that were drawn: how many they are, and each outcome
-- to which one comes, once, with a shortest schedule. None is missing that has fewer moves than the bound that is told, which
-- none that was found goes beyond. As many moves as are told were carried out to find these.
-- Where no limit was met they are all whole histories, and none was drawn. A limit is met where as many events were carried out as
-- were asked for, or where there is a history of as many moves as a schedule may have, and more may come. Then there is a history
-- of as many moves as the bound from which none that was found goes on; and the drawn ones are those that are whole and have more
-- moves than the bound, of the first so many that the generator gives from the first state on.
pub record IsExploration (c : Scene) (most first : ℕ) (text : List ℕ) : Type 0 where
  pub explored : Explored
  pub is : text ≡ report_text explored
  pub histories : List (List Move)
  pub drawn : List (List Move)
  pub count : explored.histories ≡ told_number (length (histories ++ drawn))
  pub events : (explored.events ≤ most) × CarriesOut false (race_of c) explored
  pub some : ExploresSome (race_of c) (comes c) (histories ++ drawn) (map found_of explored.findings.items.items)
  pub bounded : (h : List Move) → IsWhole (race_of c) h → length h < explored.bound → Contains histories h
  pub within : All (λ (h : List Move). length h ≤ explored.bound) histories
  pub shortest : All (ShowsShortest c explored.bound (histories ++ drawn)) (map found_of explored.findings.items.items)
  pub beyond : explored.is_cut ≡ true → AreBeyond (race_of c) explored.bound (drawn_at c first) drawn
  pub none_drawn : explored.is_cut ≡ false → drawn ≡ []
  pub cut : explored.is_cut ≡ true →
      LeavesOut (race_of c) explored.bound histories × ((explored.events ≡ most) ⊎ IsLong c)
  pub all : explored.is_cut ≡ false →
      Explores (race_of c) (comes c) histories (map found_of explored.findings.items.items)
