-- Beginnings of lists.
use Rattle.std.specs.Prelude.{◌≡◌, List, ◌++◌}

-- the list begins with `first`
abbrev pub StartsWith : {P : Type 0} → List P → List P → Type 0
StartsWith {P} all first = (rest : List P) × (all ≡ first ++ rest)
