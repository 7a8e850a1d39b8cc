-- A table of clients: each with the greatest request number that was accepted from it.
use Rattle.std.specs.Prelude.{ℕ, Bool, true, ◌&&◌, not, if◌then◌else◌, ◌==◌, Option, Some, None, is_some, List, [], ◌∷◌, map}

-- the number that is kept of the client
abbrev pub number_of : List (ℕ × ℕ) → ℕ → Option ℕ
number_of [] client = None
number_of (entry ∷ table) client = if entry.0 == client then Some entry.1 else number_of table client

-- each client stands in the table once
abbrev pub are_distinct : List (ℕ × ℕ) → Bool
are_distinct [] = true
are_distinct (entry ∷ table) = not (is_some (number_of table entry.0)) && are_distinct table

-- the entry, with the number if it is the client's
abbrev pub renumbered : ℕ → ℕ → ℕ × ℕ → ℕ × ℕ
renumbered client number entry = if entry.0 == client then (entry.0, number) else entry

-- the table with another number of the client, and otherwise as it was
abbrev pub with_number : List (ℕ × ℕ) → ℕ → ℕ → List (ℕ × ℕ)
with_number table client number = map (renumbered client number) table
