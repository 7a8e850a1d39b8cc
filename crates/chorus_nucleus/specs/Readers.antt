-- Readers of boards that no pass uses, by places: what taking one and giving one back does.
-- p and q are numbers of places.
use Rattle.std.specs.Prelude.{ℕ, ◌≡◌, ◌≢◌, ◌≤◌, ◌-◌, nat_lt, Bool, true, cond, List, [], ◌∷◌, ◌++◌, length, Option, Some, None}
use Rattle.std.specs.Global.{Vec}
use Rattle.chorus_board.specs.declared.reader.BoardReader.{BoardReader}
use Rattle.chorus_board.specs.declared.start.TheConstants.{READERS_PER_BOARD}
use Rattle.chorus_nucleus.specs.Passes.{row_at, AreRoomy}

-- what was taken stood last in its place's row
abbrev pub Taken : Option BoardReader → List BoardReader → List BoardReader → Type 0
Taken None old new = (old ≡ []) × (new ≡ [])
Taken (Some r) old new = old ≡ new ++ r ∷ []

pub record TakesReader (p : ℕ) (old new : List (Vec BoardReader)) (r : Option BoardReader) : Type 0 where
  pub taken : Taken r (row_at p old) (row_at p new)
  pub others : (q : ℕ) → 1 ≤ q → q ≢ p → row_at q new ≡ row_at q old
  pub count : length new ≡ length old
  pub room : AreRoomy old → AreRoomy new

-- it stands last in its place's row, where that had room
abbrev pub with_reader : List BoardReader → BoardReader → List BoardReader
with_reader row r = cond (nat_lt (length row) READERS_PER_BOARD) (row ++ r ∷ []) row

pub record GivesReader (p : ℕ) (old new : List (Vec BoardReader)) (r : BoardReader) : Type 0 where
  pub given : p ≤ length old → row_at p new ≡ with_reader (row_at p old) r
  pub beyond : length old ≤ p - 1 → new ≡ old
  pub others : (q : ℕ) → 1 ≤ q → q ≢ p → row_at q new ≡ row_at q old
  pub count : length new ≡ length old
  pub room : AreRoomy new

-- where the reader is given to the keeper it is given back
abbrev pub Inherits : Bool → Option BoardReader → ℕ → List (Vec BoardReader) → List (Vec BoardReader) → Type 0
Inherits true (Some r) p old new = GivesReader p old new r
Inherits _ _ p old new = new ≡ old
