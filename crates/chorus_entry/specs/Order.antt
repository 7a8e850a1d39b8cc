-- The order of the entries of all places: by clock, of equal clocks by place.
use Rattle.std.specs.Prelude.{ℕ, ◌≡◌, ◌==◌, nat_lt, Bool, true, ◌&&◌, ◌||◌, List, [], ◌∷◌}
use Rattle.std.specs.List.{All}
use Rattle.chorus_entry.specs.declared.entry.Entry.{Entry}

-- e's clock is less than f's, or the clocks are equal and e's place is less
abbrev pub comes_before : Entry → Entry → Bool
comes_before e f = nat_lt e.clock f.clock || ((e.clock == f.clock) && nat_lt e.place f.place)

-- of a list with the oldest entry first, as a journal: each entry comes before all behind it, so that the list is
-- sorted by clock and place and no two entries have both the same
abbrev pub IsInOrder : List Entry → Type 0
IsInOrder [] = Unit {0}
IsInOrder (e ∷ later) = All (λ (f : Entry). comes_before e f ≡ true) later × IsInOrder later

-- the same of a past, a list with the newest entry first: each entry comes after all behind it
abbrev pub IsRising : List Entry → Type 0
IsRising [] = Unit {0}
IsRising (e ∷ past) = All (λ (f : Entry). comes_before f e ≡ true) past × IsRising past

-- the entry is of this place
abbrev pub is_at : ℕ → Entry → Bool
is_at place e = e.place == place
