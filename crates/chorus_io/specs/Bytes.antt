-- What a source gave and a sink took, where they tell their bytes. Where one tells nothing, these say nothing of it.
use Rattle.std.specs.Prelude.{◌≡◌, ℕ, ◌+◌, ◌≤◌, List, ◌++◌, length, Option}
use Rattle.std.specs.Io.KnownBytes.{Appends, Consumes, IsAtEnd}
use Rattle.chorus_io.specs.declared.reading.ReadAll.{ReadAll}
use Rattle.chorus_io.specs.declared.reading.ReadAll.TheVariants.{Fault, TooLong, Memory}

-- what is held grew by a prefix of the bytes
pub record AppendsPrefix (old new : Option (List ℕ)) (bytes : List ℕ) : Type 0 where
  pub sent : List ℕ
  pub unsent : List ℕ
  pub whole : bytes ≡ sent ++ unsent
  pub grown : Appends old new sent

-- The bytes that were read, a front of what was left, and the limit of an input.

-- the input was read to its end, and is within the limit
abbrev pub IsReadWhole : ℕ → List ℕ → Option (List ℕ) → Option (List ℕ) → Type 0
IsReadWhole limit bytes old new = Consumes old new bytes × IsAtEnd new × (length bytes ≤ limit)

-- one byte more than the limit was read
abbrev pub IsTooLong : ℕ → List ℕ → Option (List ℕ) → Option (List ℕ) → Type 0
IsTooLong limit bytes old new = Consumes old new bytes × (length bytes ≡ limit + 1)

-- no more than the limit was read
abbrev pub IsReadWithin : ℕ → List ℕ → Option (List ℕ) → Option (List ℕ) → Type 0
IsReadWithin limit bytes old new = Consumes old new bytes × (length bytes ≤ limit)

-- what was read where there is no whole input, by its cause
abbrev pub StopsBy : ReadAll → ℕ → List ℕ → Option (List ℕ) → Option (List ℕ) → Type 0
StopsBy Fault limit bytes old new = IsReadWithin limit bytes old new
StopsBy TooLong limit bytes old new = IsTooLong limit bytes old new
StopsBy (Memory error) limit bytes old new = IsReadWithin limit bytes old new
