-- What is said of a race, and when it is all that may come of it.
-- r is a race, ms are moves, the latest first, histories are lists of such, f is what was found, o an outcome, n a
-- number; what the moves come to may be told in any form, as a text.
use Rattle.std.specs.Prelude.{ℕ, zero, suc, min, ◌≡◌, ◌≢◌, ◌⊎◌, ◌-◌, ◌^◌, List, [], ◌∷◌, map, Contains}
use Rattle.std.specs.List.{All, AllPairs}
use Rattle.law_explore.specs.declared.moves.Move.{Move}
use Rattle.law_explore.specs.Races.{Race, IsWhole}
use Rattle.law_explore.specs.Members.{AreOnce}

-- A number of histories as it is told: one that is greater than 2^64 - 1 is told as that.
abbrev pub told_number : ℕ → ℕ
told_number n = min n (2 ^ 64 - 1)

-- an outcome, how many of the histories that were counted come to it, as that is told, and one of them
pub record Found (O : Type 0) : Type 0 where
  pub outcome : O
  pub histories : ℕ
  pub shows : List Move

module _ {O : Type 0} (comes : List Move → O) where
  -- so many of these come to the outcome
  abbrev pub Count : O → List (List Move) → ℕ → Type 0
  Count o [] n = n ≡ 0
  Count o (ms ∷ rest) zero = (comes ms ≢ o) × Count o rest zero
  Count o (ms ∷ rest) (suc n) = ((comes ms ≡ o) × Count o rest n) ⊎ ((comes ms ≢ o) × Count o rest (suc n))

  -- the number that is told is how many of these come to the outcome
  pub record IsCounted (o : O) (histories : List (List Move)) (told : ℕ) : Type 0 where
    pub number : ℕ
    pub count : Count o histories number
    pub is : told ≡ told_number number

module _ {O : Type 0} (r : Race) (comes : List Move → O) where
  -- the history shows the outcome
  pub record IsShown (f : Found O) : Type 0 where
    pub whole : IsWhole r f.shows
    pub comes_to : comes f.shows ≡ f.outcome

  -- where a limit was met: what is said of these histories, each of which stands once, is true, each outcome once, with
  -- one of them and how many they are
  pub record ExploresSome (histories : List (List Move)) (printed : List (Found O)) : Type 0 where
    pub whole : All (IsWhole r) histories
    pub each : AreOnce histories
    pub shown : All (λ (f : Found O). IsShown f × Contains histories f.shows) printed
    pub once : AllPairs (λ (one other : Found O). one.outcome ≢ other.outcome) printed
    pub found : All (λ (ms : List Move). Contains (map (λ (f : Found O). f.outcome) printed) (comes ms)) histories
    pub counted : All (λ (f : Found O). IsCounted comes f.outcome histories f.histories) printed

  -- and else none is missing: the histories are all whole ones, and so each comes to what is said
  pub record Explores (histories : List (List Move)) (printed : List (Found O)) : Type 0 where
    pub some : ExploresSome histories printed
    pub every : (ms : List Move) → IsWhole r ms → Contains histories ms
    pub all : (ms : List Move) → IsWhole r ms → Contains (map (λ (f : Found O). f.outcome) printed) (comes ms)
