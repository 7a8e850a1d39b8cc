-- How many moves a search carries out: one for each pair of a class and a move that may come behind it.
-- r is a race, cs are the classes of a level, levels are such, the latest first, n is a number of moves, h a history, e is
-- what a search came to, old and new before and after; asks says whether claims are asked.
use Rattle.std.specs.Prelude.{ℕ, ◌≡◌, ◌≤◌, ◌+◌, Bool, true, false, List, [], ◌∷◌, length, drop, sum_by, Result, Ok, Contains}
use Rattle.std.specs.List.{All}
use Rattle.chorus_place.specs.declared.fault.PlaceFault.{PlaceFault}
use Rattle.law_explore.specs.declared.moves.Move.{Move}
use Rattle.law_explore.specs.Members.{Merged, IsEnd, IsLevel}
use Rattle.law_explore.specs.Positions.{next_behind}
use Rattle.law_explore.specs.Search.{IsHistory}
use Rattle.law_explore.specs.Races.{Race, replaying}
use Rattle.explore_report.specs.declared.explored.Explored.{Explored}
use Rattle.chorus_explore.specs.Tellings.{tells_of}

-- The classes stand for all histories of so many moves behind which more may come. Each shows one of its own.
pub record GoOnFrom (asks : Bool) (r : Race) (n : ℕ) (cs : List Merged) : Type 0 where
  pub ends : List (List Move)
  pub level : IsLevel (tells_of asks) r n cs ends
  pub among : All (λ (m : Merged). Contains m.members m.shows) cs
  pub go_on : All (λ (m : Merged). IsEnd r m.shows → ⊥) cs

-- the levels from that of no move on
abbrev pub AreLevels : Bool → Race → List (List Merged) → Type 0
AreLevels asks r [] = Unit {0}
AreLevels asks r (cs ∷ levels) = GoOnFrom asks r (length levels) cs × AreLevels asks r levels

abbrev pub moves_behind : Race → List Merged → ℕ
moves_behind r cs = sum_by (λ (m : Merged). length (next_behind r m.shows)) cs

abbrev pub all_moves : Race → List (List Merged) → ℕ
all_moves r levels = sum_by (λ (cs : List Merged). moves_behind r cs) levels

-- The levels below the bound were gone on from, the last of them in part where a limit was met; else no history has more
-- moves.
pub record CarriesOut (asks : Bool) (r : Race) (e : Explored) : Type 0 where
  pub levels : List (List Merged)
  pub are : AreLevels asks r levels
  pub below : length levels ≡ e.bound
  pub least : all_moves r (drop 1 levels) ≤ e.events
  pub most : e.events ≤ all_moves r levels
  pub all : e.is_cut ≡ false → all_moves r levels ≤ e.events
  pub last : e.is_cut ≡ false → (h : List Move) → IsHistory (replaying r) h → length h ≤ e.bound

-- no move was carried out, and the bound stays
abbrev pub SameEvents : Explored → Explored → Type 0
SameEvents old new = (new.events ≡ old.events) × (new.bound ≡ old.bound)

-- so many moves were carried out, or some of them, up to a limit
pub record Carries (n : ℕ) (result : Result Bool PlaceFault) (old new : Explored) : Type 0 where
  pub all : result ≡ Ok true → (new.events ≡ old.events + n) × (new.bound ≡ old.bound)
  pub some : result ≡ Ok false → (new.is_cut ≡ true) × (new.bound ≡ old.bound)
      × (old.events ≤ new.events) × (new.events ≤ old.events + n)
