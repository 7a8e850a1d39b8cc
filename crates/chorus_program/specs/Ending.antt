-- What is said of how the program ended.
use Rattle.std.specs.Prelude.{ℕ, ◌⊎◌, List, Option}
use Rattle.std.specs.Io.KnownBytes.{Appends}
use Rattle.chorus_io.specs.Bytes.{AppendsPrefix}
use Rattle.chorus_io.specs.Count.{Rose}

-- the line was written, or its first part, where the count of faults rose
pub record IsSaid (line : List ℕ) (old new : Option (List ℕ)) (before now : ℕ) : Type 0 where
  pub prefix : AppendsPrefix old new line
  pub whole : Appends old new line ⊎ Rose before now
