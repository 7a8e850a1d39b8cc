-- What one more line of entries does to the world.
use Rattle.std.specs.Prelude.{◌≡◌, ℕ, ◌⊎◌, List, ◌++◌, Some}
use Rattle.chorus_entry.specs.declared.entry.Entry.{Entry}
use Rattle.chorus_world.specs.Steps.{State, next}
use Rattle.chorus_checker.specs.declared.fault.WorldFault.{WorldFault}
use Rattle.chorus_checker.specs.declared.fault.WorldFault.TheVariants.{NotLegal, Memory}
use Rattle.chorus_show.specs.Lines.{entry_text}
use Rattle.chorus_show.specs.Bounds.{IsWithin}
use Rattle.chorus_audit.specs.Tests.{IsNoEntry, IsUnlawful}

-- the text begins with the line of an entry, which the world takes
pub record TakesEntry (old new : State) (text rest : List ℕ) : Type 0 where
  pub entry : Entry
  pub within : IsWithin entry
  pub is : text ≡ entry_text entry ++ rest
  pub next_is : next old entry ≡ Some new

-- the text begins with no line of an entry that the world takes
abbrev pub IsStop : State → List ℕ → WorldFault → Type 0
IsStop w text (NotLegal rule) = IsNoEntry text rule ⊎ IsUnlawful w.layout w.past text rule
IsStop w text (Memory error) = Unit {0}
