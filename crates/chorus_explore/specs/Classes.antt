-- Classes of histories that come to the same.
-- c is a scenario, r is its race, classes are those of a search, ms are moves, the latest first, n is how many they are,
-- m is a class with its members; in StandFor ms are such; asks says whether claims are asked.
use Rattle.std.specs.Prelude.{ℕ, ◌≡◌, Bool, List, [], ◌∷◌, ◌++◌, length, reverse, sum_by, Some, slice_get, Contains}
use Rattle.std.specs.List.{All}
use Rattle.law_explore.specs.declared.moves.Move.{Move}
use Rattle.law_explore.specs.Explores.{told_number}
use Rattle.law_explore.specs.Members.{Merged, IsMerged}
use Rattle.law_explore.specs.Positions.{next_behind}
use Rattle.law_explore.specs.Merging.{ComeToldAlike}
use Rattle.law_explore.specs.Search.{IsHistory}
use Rattle.law_explore.specs.Races.{Race, replaying}
use Rattle.law_replay.specs.Shown.{race_of}
use Rattle.chorus_scene.specs.Scene.{Scene}
use Rattle.chorus_explore.specs.declared.level_search.Class.{Class}
use Rattle.chorus_explore.specs.Tellings.{tells_of}

-- the history that a class shows, the latest move first
abbrev pub shown_by : Class → List Move
shown_by class = reverse class.moves.items

abbrev pub AreClasses : Scene → List Class → Type 0
AreClasses c classes = All (λ (class : Class). IsHistory (replaying (race_of c)) (shown_by class)) classes

-- the class that stands there comes to the same as the moves
pub record IsClassOf (asks : Bool) (c : Scene) (classes : List Class) (index : ℕ) (ms : List Move) : Type 0 where
  pub class : Class
  pub stands : slice_get classes index ≡ Some class
  pub alike : ComeToldAlike (tells_of asks) (race_of c) (shown_by class) ms

-- The class shows these moves, n of them. Its members, these moves among them, come to positions that are alike, and as
-- many are told as they are.
pub record StandsFor (asks : Bool) (r : Race) (n : ℕ) (ms : List Move) (told : ℕ) (m : Merged) : Type 0 where
  pub shows : m.shows ≡ ms
  pub merged : IsMerged (tells_of asks) r n m
  pub among : Contains m.members m.shows
  pub number : told ≡ told_number (length m.members)

-- and so does each class for its own
abbrev pub StandFor : Bool → Race → ℕ → List Class → List Merged → Type 0
StandFor asks r n [] [] = Unit {0}
StandFor asks r n (class ∷ classes) (m ∷ ms) =
    StandsFor asks r n (shown_by class) class.number m × StandFor asks r n classes ms
StandFor _ _ _ _ _ = ⊥

-- a class more, of so many histories, which shows these moves
pub record MakesClass (moves : List Move) (number : ℕ) (old new : List Class) : Type 0 where
  pub class : Class
  pub is : new ≡ old ++ class ∷ []
  pub moves_are : class.moves.items ≡ moves
  pub number_is : class.number ≡ number

-- how many moves may come behind the classes
abbrev pub moves_from : Scene → List Class → ℕ
moves_from c classes = sum_by (λ (class : Class). length (next_behind (race_of c) (shown_by class))) classes
