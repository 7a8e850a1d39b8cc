-- What is said of the entries of journals beside their order, which is that of chorus_entry.
use Rattle.std.specs.Prelude.{◌≢◌, ◌<◌, if◌then◌else◌, List, [], ◌∷◌}
use Rattle.std.specs.List.{All}
use Rattle.chorus_entry.specs.declared.entry.Entry.{Entry}
use Rattle.chorus_entry.specs.Order.{comes_before}

-- each entry's clock is below those of all behind it
abbrev pub ClocksRise : List Entry → Type 0
ClocksRise [] = Unit {0}
ClocksRise (e ∷ es) = All (λ (f : Entry). e.clock < f.clock) es × ClocksRise es

-- no place has entries in both lists
abbrev pub AreApart : List Entry → List Entry → Type 0
AreApart xs ys = All (λ (e : Entry). All (λ (f : Entry). e.place ≢ f.place) ys) xs

-- the list with e put in before the first entry that e comes before
abbrev pub put : Entry → List Entry → List Entry
put e [] = e ∷ []
put e (f ∷ fs) = if comes_before e f then e ∷ f ∷ fs else f ∷ put e fs
