-- The laws of the merge.
use Rattle.std.specs.Prelude.{ℕ, suc, ◌≡◌, ◌==◌, List, [], ◌∷◌, ◌++◌, map}
use Rattle.std.specs.List.{All, filter, slice_index_or}
use Rattle.chorus_entry.specs.declared.entry.Entry.{Entry}
use Rattle.chorus_merge.specs.Order.{AreApart, put, ClocksRise}
use Rattle.chorus_entry.specs.Order.{IsInOrder, is_at}
use Rattle.chorus_merge.specs.Merge.{all_entries, merged}

-- an entry with the number of the journal that it came from, counted from 0
pub record Numbered : Type 0 where
  pub journal : ℕ
  pub entry : Entry

-- the entries are those of the journals, in an order that keeps the order of each: they can be numbered so that those
-- of number k are journal k
pub record Interleaves (journals : List (List Entry)) (entries : List Entry) : Type 0 where
  pub numbered : List Numbered
  pub whole : map (λ (n : Numbered). n.entry) numbered ≡ entries
  pub parts : (k : ℕ) → map (λ (n : Numbered). n.entry) (filter (λ (n : Numbered). n.journal == k) numbered)
      ≡ slice_index_or journals k []

-- the merge keeps the order of each journal, loses nothing and adds nothing
abbrev pub KeepsJournals : Type 0
KeepsJournals = (journals : List (List Entry)) → Interleaves journals (merged journals)

-- no two journals share a place
abbrev pub ShareNoPlace : List (List Entry) → Type 0
ShareNoPlace [] = Unit {0}
ShareNoPlace (journal ∷ journals) = AreApart journal (all_entries journals) × ShareNoPlace journals

-- where no two journals share a place, the entries of each place stand in the merge as they stand in its journal
abbrev pub KeepsPlaces : Type 0
KeepsPlaces =
    (journals : List (List Entry)) (place : ℕ) → ShareNoPlace journals →
    filter (is_at place) (merged journals) ≡ filter (is_at place) (all_entries journals)

-- the first journal has entries of this place alone, the next one of the next place, and so on
abbrev pub AreOfPlaces : ℕ → List (List Entry) → Type 0
AreOfPlaces place [] = Unit {0}
AreOfPlaces place (journal ∷ journals) = All (λ (e : Entry). e.place ≡ place) journal × AreOfPlaces (suc place) journals

-- where the journals are those of the places from 1 on, the entries of a place in the merge are exactly its journal
abbrev pub GivesJournalsBack : Type 0
GivesJournalsBack =
    (journals : List (List Entry)) (k : ℕ) → AreOfPlaces 1 journals →
    ShareNoPlace journals × (filter (is_at (suc k)) (merged journals) ≡ slice_index_or journals k [])

-- where clocks rise along each journal and no two share a place, the merge is sorted by clock and place
abbrev pub IsSortedMerge : Type 0
IsSortedMerge =
    (journals : List (List Entry)) → ShareNoPlace journals → All ClocksRise journals → IsInOrder (merged journals)

-- and it is the one sorted list in which the entries of each place stand as in its journal
abbrev pub IsOnlyOne : Type 0
IsOnlyOne =
    (journals : List (List Entry)) (entries : List Entry) → ShareNoPlace journals → All ClocksRise journals →
    IsInOrder entries →
    ((place : ℕ) → filter (is_at place) entries ≡ filter (is_at place) (all_entries journals)) →
    entries ≡ merged journals

-- with one more entry at a journal's end, the merge is the merge without it and that entry put in at its place
abbrev pub PutsNextEntry : Type 0
PutsNextEntry =
    (front : List (List Entry)) (journal : List Entry) (e : Entry) (back : List (List Entry)) →
    let more = front ++ ((journal ++ e ∷ []) ∷ back) in
    ShareNoPlace more → All ClocksRise more → merged more ≡ put e (merged (front ++ (journal ∷ back)))
